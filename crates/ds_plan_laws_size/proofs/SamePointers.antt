-- What a descriptor lists stays where its pointer blocks do.
use Rattle.std.proofs.Common.{◌≡◌, ℕ, suc, nat_le, if◌then◌else◌, List, [], ◌∷◌, ◌++◌, take, drop, slice_get, Option, Some, None, refl, ap, ◌∙◌}
use Rattle.std.specs.List.{flat_map}
use Rattle.ds_base.specs.declared.names.NodeKind.{NodeKind}
use Rattle.ds_base.specs.declared.names.NodeKind.TheVariants as kinds
use Rattle.ds_fd.specs.declared.body.Body.{Body}
use Rattle.ds_image_parts.specs.Objects.{addresses_in, ptrs_by, pointed_by, blocks_by, ptrs_of, blocks_of, tail_of}
use Rattle.ds_image_parts.specs.Parts.{Parts, part_at}

flat-same : (f f' : ℕ → List ℕ) (ns : List ℕ) → ((i n : ℕ) → slice_get ns i ≡ Some n → f' n ≡ f n) → flat_map f' ns ≡ flat_map f ns
flat-same f f' [] same = refl
flat-same f f' (n ∷ ns) same = ap (λ l. l ++ flat_map f' ns) (same 0 n refl) ∙ ap (λ l. f n ++ l) (flat-same f f' ns (λ i m at. same (suc i) m at))

module _ (p q : Parts) where
  pointed-same : (b : Body) (kind : Option NodeKind) → ((i n : ℕ) → slice_get (ptrs_by b kind) i ≡ Some n → part_at q.ptrs n ≡ part_at p.ptrs n)
      → pointed_by q b kind ≡ pointed_by p b kind
  pointed-same b kind same =
      flat-same (λ n. addresses_in (part_at p.ptrs n)) (λ n. addresses_in (part_at q.ptrs n)) (ptrs_by b kind) (λ i n at. ap addresses_in (same i n at))

  blocks-same_by : (b : Body) (kind : Option NodeKind) → ((i n : ℕ) → slice_get (ptrs_by b kind) i ≡ Some n → part_at q.ptrs n ≡ part_at p.ptrs n)
      → blocks_by q b kind ≡ blocks_by p b kind
  blocks-same_by b None same = refl
  blocks-same_by b (Some kinds.Dir) same = refl
  blocks-same_by b (Some kinds.File) same = ap (λ l. take b.count (if nat_le b.count 96 then b.addresses else l)) (pointed-same b (Some kinds.File) same)

  pub blocks-stay : (body : Option Body) → ((i n : ℕ) → slice_get (ptrs_of body) i ≡ Some n → part_at q.ptrs n ≡ part_at p.ptrs n)
      → blocks_of q body ≡ blocks_of p body
  blocks-stay None same = refl
  blocks-stay (Some b) same = blocks-same_by b b.kind same

  pub tail-stays : (body : Option Body) → ((i n : ℕ) → slice_get (ptrs_of body) i ≡ Some n → part_at q.ptrs n ≡ part_at p.ptrs n)
      → tail_of q body ≡ tail_of p body
  tail-stays None same = refl
  tail-stays (Some b) same = ap (drop b.count) (pointed-same b b.kind same)
