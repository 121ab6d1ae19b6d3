-- A page of a list that is made item by item.
use Rattle.std.proofs.Common.{◌≡◌, ℕ, ◌<◌, ◌≤◌, List, [], ◌∷◌, ◌++◌, length, take, map, sym, ap, ◌∙◌, arith, append_assoc}
use Rattle.std.proofs.lemmas.List.{take_all, take-append-le, append-nil}
use Rattle.std.specs.List.{take-map}

module _ {A B : Type 0} (f : A → B) (all : List A) (n : ℕ) where
  -- so far the items of the page, and the rest
  pub record Paged (page : List B) (rest : List A) : Type 0 where
    pub split : map f all ≡ page ++ map f rest
    pub short : length page < n

  pub paged-end : (page : List B) (rest : List A) → Paged page rest → rest ≡ [] → page ≡ map f (take n all)
  paged-end page rest paged none =
      let whole : map f all ≡ page = paged.split ∙ ap (λ r. page ++ map f r) none ∙ append-nil page in
      let short = paged.short in
      sym (sym (take-map f n all) ∙ ap (take n) whole ∙ take_all n page (omega arith))

  pub paged-full : (page : List B) (rest : List A) → map f all ≡ page ++ map f rest → n ≤ length page → length page ≤ n → page ≡ map f (take n all)
  paged-full page rest split a b =
      sym (sym (take-map f n all) ∙ ap (take n) split ∙ take-append-le n page (map f rest) a ∙ take_all n page b)

  pub paged-more : (page : List B) (rest : List A) → map f all ≡ page ++ map f rest → (x : A) (rest' : List A) → rest ≡ x ∷ rest' → map f all ≡ (page ++ f x ∷ []) ++ map f rest'
  paged-more page rest split x rest' is = split ∙ ap (λ r. page ++ map f r) is ∙ sym (append_assoc page (f x ∷ []) (map f rest'))
