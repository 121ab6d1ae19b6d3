-- A page of a directory, sub-block by sub-block and room by room.
use Rattle.std.proofs.Common.{◌≡◌, ℕ, suc, ◌+◌, ◌<◌, ◌≤◌, List, [], ◌∷◌, ◌++◌, length, take, drop, get_or, drop-cons, Option, None, Some, refl, sym, ap, ◌∙◌, arith}
use Rattle.std.specs.Prelude.{Result, Ok, Err, option_to_list}
use Rattle.std.specs.List.{filter_map}
use Rattle.std.specs.FinMap as maps
use Rattle.std.proofs.lemmas.List.{take_more, take_all, drop_all}
use Rattle.std.proofs.lemmas.List.Elements.{filter_map-append}
use Rattle.ds_base.specs.declared.geometry.Geom.{Geom}
use Rattle.ds_base.specs.declared.names.Key.{Key}
use Rattle.ds_dir.specs.declared.sub_block.Entry.{Entry}
use Rattle.ds_dir.specs.declared.sub_block.SubBlock.{SubBlock}
use Rattle.ds_fd.specs.declared.body.Body.{Body}
use Rattle.ds_image_parts.specs.Objects.{rooms_in, used_rooms}
use Rattle.ds_image_parts.specs.Parts.{Parts}
use Rattle.ds_image.specs.SeenValues.{SeenValue}
use Rattle.ds_image_parts.proofs.Ownership.ListedItems.{used_rooms-more}
use Rattle.ds_plan_dirs.specs.Answers.{page_known}
use Rattle.ds_plan_dirs.specs.Pages.{name_cmp, page_names, page_of}
use Rattle.ds_plan_base.specs.Bodies.{sub_seen}
use Rattle.ds_plan_base.specs.Entries.{subs_known}
use Rattle.ds_plan_base.specs.Steps.{after}
use Rattle.ds_plan_base.proofs.Finding.{sub-there}
use Rattle.ds_plan_base.specs.declared.stops.Stop.{Stop}
use Rattle.ds_tree.specs.declared.calls.TreeReply.TheVariants as replies

no-items : {X : Type 0} (xs : List X) → length xs ≡ 0 → [] ≡ xs
no-items [] none = refl
no-items (x ∷ xs) none = absurd (omega (arith, none))

-- no entries make an empty page
pub empty_page : (above : Option (List ℕ)) → [] ≡ page_names above []
empty_page above =
    let m : maps.FinMap name_cmp Key = maps.from_entries {R = name_cmp} [] in
    ap (take 32) (no-items (maps.entries m) (sym (maps.len-entries m) ∙ maps.len-empty name_cmp Key))

one_room : (r : Option Entry) → filter_map (λ room. room) (r ∷ []) ≡ option_to_list r
one_room None = refl
one_room (Some e) = refl

-- the entries of one more room
pub rooms_more : (rooms : List (Option Entry)) (i : ℕ) (d : Option Entry) → i < length rooms
    → filter_map (λ room. room) (take (i + 1) rooms) ≡ filter_map (λ room. room) (take i rooms) ++ option_to_list (get_or rooms i d)
rooms_more rooms i d within =
    ap (filter_map (λ room. room)) (take_more rooms i d within)
    ∙ filter_map-append (λ room. room) (take i rooms) (get_or rooms i d ∷ [])
    ∙ ap (λ l. filter_map (λ room. room) (take i rooms) ++ l) (one_room (get_or rooms i d))

module _ (g : Geom) (seen : SeenValue) (p : Parts) (b : Body) (subs : List ℕ) (i : ℕ) (within : i < length subs) where
  next : subs_known g seen p b (drop i subs) ≡ after (sub_seen g seen p b (get_or subs i 0)) (λ block. subs_known g seen p b (drop (i + 1) subs))
  next =
      ap (subs_known g seen p b) (drop-cons subs i 0 within)
      ∙ ap (λ k. after (sub_seen g seen p b (get_or subs i 0)) (λ block. subs_known g seen p b (drop k subs))) (let e : suc i ≡ i + 1 = omega arith in e)

  -- one more sub-block is known
  pub known_more : (block : SubBlock) → sub_seen g seen p b (get_or subs i 0) ≡ Ok block
      → subs_known g seen p b (drop i subs) ≡ subs_known g seen p b (drop (i + 1) subs)
  known_more block is = next ∙ ap (λ (r : Result SubBlock Stop). after r (λ block. subs_known g seen p b (drop (i + 1) subs))) is

  -- or isn't
  pub known_not : (above : Option (List ℕ)) (stop : Stop) → sub_seen g seen p b (get_or subs i 0) ≡ Err stop
      → subs_known g seen p b subs ≡ subs_known g seen p b (drop i subs) → Err stop ≡ page_known g seen p above b subs
  known_not above stop is before =
      let stopped : subs_known g seen p b subs ≡ Err stop =
      before ∙ next ∙ ap (λ (r : Result SubBlock Stop). after r (λ block. subs_known g seen p b (drop (i + 1) subs))) is in
      sym (ap (λ (r : Result Body Stop). after r (λ c. Ok (page_of above (used_rooms p subs)))) stopped)

  -- the entries of one more sub-block
  pub entries_more : (block : SubBlock) → sub_seen g seen p b (get_or subs i 0) ≡ Ok block
      → used_rooms p (take (i + 1) subs) ≡ used_rooms p (take i subs) ++ filter_map (λ room. room) block.rooms
  entries_more block is =
      used_rooms-more p subs i within
      ∙ ap (λ (r : Option SubBlock). used_rooms p (take i subs) ++ filter_map (λ room. room) (rooms_in r)) (sub-there g seen p b (get_or subs i 0) block is)

-- once all sub-blocks are known, so is the page
pub page_whole : (g : Geom) (seen : SeenValue) (p : Parts) (b : Body) (subs : List ℕ) (i : ℕ) (above : Option (List ℕ)) (total : ℕ) (names : List (List ℕ × Key))
    → length subs ≤ i → subs_known g seen p b subs ≡ subs_known g seen p b (drop i subs) → total ≡ length (used_rooms p (take i subs))
    → names ≡ page_names above (used_rooms p (take i subs))
    → Ok (replies.Page total (record { items = names })) ≡ page_known g seen p above b subs
page_whole g seen p b subs i above total names past known count page =
    let all : used_rooms p (take i subs) ≡ used_rooms p subs = ap (used_rooms p) (take_all i subs past) in
    let whole : subs_known g seen p b subs ≡ Ok b = known ∙ ap (subs_known g seen p b) (drop_all i subs past) in
    ap (λ n. Ok (replies.Page n (record { items = names }))) (count ∙ ap length all)
    ∙ ap (λ (l : List (List ℕ × Key)). Ok (replies.Page (length (used_rooms p subs)) (record { items = l }))) (page ∙ ap (page_names above) all)
    ∙ sym (ap (λ (r : Result Body Stop). after r (λ c. Ok (page_of above (used_rooms p subs)))) whole)
