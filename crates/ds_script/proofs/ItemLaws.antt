-- What the lines behind a volume line owe.
use Rattle.std.proofs.Common.{◌≡◌, ℕ, ◌<◌, Bool, true, false, not, ◌||◌, List, [], ◌∷◌, length, Ok, Err, Option, Some, None, refl, ap, sym, ◌∙◌, subst, arith}
use Rattle.std.specs.Prelude.{IfOk, codes, decimal, is_some, if◌then◌else◌}
use Rattle.std.specs.Option.{option_map_or}
use Rattle.std.specs.Str.{bytes_eq}
use Rattle.std.proofs.lemmas.Bool.{or_parts}
use Rattle.std.proofs.lemmas.Option.{get_or_from_slice_get, slice_get-get_or}
use Rattle.ds_tree.specs.declared.scenarios.Directive.{Directive}
use Rattle.ds_tree.specs.Lines.{Words, is_word}
use Rattle.ds_tree.specs.Grammar.{most_turns, IsHostName, IsNameOf, IsStep, Spells, Fits, Item, Volume, Host, Does, Step, SpellsItem}
use Rattle.ds_script.specs.declared.faults.LineFault.{LineFault}
use Rattle.ds_script.specs.declared.faults.LineFault.TheVariants as faults
use Rattle.ds_script.specs.Faults.{End, FreshHost, host_shape, step_shape, first_fault, is_among, directive_fault}
use Rattle.ds_script.specs.Reading.{◌>>=◌, Reads, word_at, end_at, host_named, fresh_host_at, directive_at, host_line_at, step_at, does_at, item_at}
use Rattle.ds_script.proofs.Readers.{fault_in, first_word_means, first_word_tells, first_word_again, IsLine, IfOk-like}
use Rattle.ds_script.proofs.WordLaws.{bytes_eq-means, label_means, is_word-label}
use Rattle.ds_script.proofs.FieldLaws.{IsFreshWord, fresh_field}
use Rattle.ds_script.proofs.LookupLaws.{AreNames, host_named-means, host_named-from, is_among-found}
use Rattle.ds_script.proofs.Written.{Written, HasOneWord, written_end, written_then}
use Rattle.ds_script.proofs.DirectiveLines.{IsWithin, name_at, host_number_line}
use Rattle.ds_script.proofs.DirectiveLaws.{Says}
use Rattle.ds_script.proofs.DirectiveReading.{directive_means, directive_tells, directive_again}

-- an item may stand where the hosts so far have these names, and a directive or a `step` line has come before or not
abbrev pub MayStand : Words → Bool → Item → Type 0
MayStand names begun (Volume id g) = ⊥
MayStand names begun (Host name) = IsHostName name × (is_among name names ≡ false) × (begun ≡ false)
MayStand names begun (Does host d) = Fits (length names) d
MayStand names begun (Step host count) = IsStep (length names) (host, count)

-- the words spell an item that may stand
pub record SaysItem (names : Words) (begun : Bool) (ws : Words) (item : Item) : Type 0 where
  pub spells : SpellsItem names ws item
  pub stands : MayStand names begun item

-- the first fault of the words of a line behind the volume line
abbrev pub item_fault : Words → Bool → List ℕ → Words → Option LineFault
item_fault names begun w ws =
    if not (is_word w) then Some faults.Word
    else if bytes_eq w (codes "volume") then Some faults.Volume
    else if bytes_eq w (codes "host") then (if begun then Some faults.Host else first_fault names host_shape ws)
    else if bytes_eq w (codes "step") then first_fault names step_shape ws
    else if is_among w names then directive_fault names ws
    else Some faults.Host

module _ (names : Words) where
  -- Host lines.

  fresh_one : HasOneWord (List ℕ) (IsFreshWord names) (λ w. w) (λ name. IsHostName name × (is_among name names ≡ false))
  fresh_one = record {
    is = λ w x h. h.is;
    fits = λ w x h. (h.name, h.fresh);
    means = λ x h. record { is = refl; name = h.0; fresh = h.1 };
  }

  host_line : IsLine Item names host_shape (host_line_at names)
      (Written (List ℕ × Unit {0}) Item (λ v. v.0 ∷ []) (λ v. (IsHostName v.0 × (is_among v.0 names ≡ false)) × Unit {0}) (λ v. Host v.0))
  unfolding host_line_at
  host_line =
      written_then _ _ _ names FreshHost End (fresh_host_at names) (λ name. end_at (Host name)) _ _ _ _ _ _ (fresh_field names) fresh_one
      (λ name. written_end Item names (Host name))

  module _ (are : AreNames names) where
    -- `step` lines.

    step_line : IsLine Item names step_shape (step_at names)
        (Written (ℕ × (ℕ × Unit {0})) Item (λ v. name_at names v.0 ∷ decimal v.1.0 ∷ [])
        (λ v. (v.0 < length names) × (IsWithin 1 most_turns v.1.0 × Unit {0})) (λ v. Step v.0 v.1.0))
    unfolding step_at
    step_line = host_number_line names are 1 most_turns (omega arith) Item (λ host count. Step host count)

    -- Lines of directives.

    abbrev does : ℕ → Reads Directive → Reads Item
    does host r = r >>= (λ directive. Ok (Does host directive))

    does_means : (host : ℕ) (w : List ℕ) (ws : Words) (begun : Bool) (r : Reads Directive) → IsNameOf names host w
        → IfOk r (Says names ws) → IfOk (does host r) (SaysItem names begun (w ∷ ws))
    does_means host w ws begun (Ok d) is h = record { spells = (w, ws, is, refl, h.spells); stands = h.fits }
    does_means host w ws begun (Err f) is h = tt

    does_tells : (host : ℕ) (r : Reads Directive) → fault_in r ≡ fault_in (does host r)
    does_tells host (Ok d) = refl
    does_tells host (Err f) = refl

    abbrev by_host : Option ℕ → Words → Reads Item
    by_host o ws = option_map_or (λ host. does host (directive_at names ws)) o (Err faults.Host)

    by_host_means : (w : List ℕ) (ws : Words) (begun : Bool) (o : Option ℕ) → host_named names w ≡ o
        → IfOk (by_host o ws) (SaysItem names begun (w ∷ ws))
    by_host_means w ws begun None e = tt
    by_host_means w ws begun (Some host) e =
        does_means host w ws begun (directive_at names ws) (host_named-means names w host e) (directive_means names are ws)

    by_host_tells : (ws : Words) (o : Option ℕ) → (if is_some o then directive_fault names ws else Some faults.Host) ≡ fault_in (by_host o ws)
    by_host_tells ws None = refl
    by_host_tells ws (Some host) = directive_tells names are ws ∙ does_tells host (directive_at names ws)

    -- All of them.

    abbrev item_body : Bool → List ℕ × Words → Reads Item
    item_body begun w =
        if bytes_eq w.0 (codes "volume") then Err faults.Volume
        else if bytes_eq w.0 (codes "host") then (if begun then Err faults.Host else host_line_at names w.1)
        else if bytes_eq w.0 (codes "step") then step_at names w.1
        else does_at names w.0 w.1

    body_means : (w : List ℕ) (ws : Words) (begun volume host step : Bool) → (host ≡ true → w ≡ codes "host") → (step ≡ true → w ≡ codes "step")
        → IfOk (if volume then Err faults.Volume
        else if host then (if begun then Err faults.Host else host_line_at names ws)
        else if step then step_at names ws
        else does_at names w ws)
        (SaysItem names begun (w ∷ ws))
    unfolding does_at
    body_means w ws begun true host step is_host is_step = tt
    body_means w ws true false true step is_host is_step = tt
    body_means w ws false false true step is_host is_step =
        IfOk-like _ (SaysItem names false (w ∷ ws)) (host_line_at names ws)
        (λ item h.
        let says : SaysItem names false (w ∷ ws) (Host h.value.0) = record {
          spells = ap (λ (first : List ℕ). first ∷ ws) (is_host refl) ∙ ap (λ (r : Words). codes "host" ∷ r) h.is;
          stands = (h.fits.0.0, h.fits.0.1, refl);
        } in
        subst (λ i. SaysItem names false (w ∷ ws) i) (sym h.made) says)
        (host_line.means ws)
    body_means w ws begun false false true is_host is_step =
        IfOk-like _ (SaysItem names begun (w ∷ ws)) (step_at names ws)
        (λ item h.
        let says : SaysItem names begun (w ∷ ws) (Step h.value.0 h.value.1.0) = record {
          spells = (
            name_at names h.value.0,
            slice_get-get_or names h.value.0 [] h.fits.0,
            ap (λ (first : List ℕ). first ∷ ws) (is_step refl) ∙ ap (λ (r : Words). codes "step" ∷ r) h.is,
          );
          stands = (h.fits.0, h.fits.1.0.0, h.fits.1.0.1);
        } in
        subst (λ i. SaysItem names begun (w ∷ ws) i) (sym h.made) says)
        (step_line.means ws)
    body_means w ws begun false false false is_host is_step = by_host_means w ws begun (host_named names w) refl

    pub item_means : (begun : Bool) (ws : Words) → IfOk (item_at names begun ws) (SaysItem names begun ws)
    unfolding item_at word_at
    item_means begun [] = tt
    item_means begun (w ∷ ws) =
        first_word_means Item (item_body begun) w ws (SaysItem names begun (w ∷ ws))
        (body_means w ws begun (bytes_eq w (codes "volume")) (bytes_eq w (codes "host")) (bytes_eq w (codes "step"))
        (bytes_eq-means w (codes "host")) (bytes_eq-means w (codes "step")))

    body_tells : (w : List ℕ) (ws : Words) (begun volume host step : Bool)
        → (if volume then Some faults.Volume
        else if host then (if begun then Some faults.Host else first_fault names host_shape ws)
        else if step then first_fault names step_shape ws
        else if is_among w names then directive_fault names ws
        else Some faults.Host)
        ≡ fault_in (if volume then Err faults.Volume
        else if host then (if begun then Err faults.Host else host_line_at names ws)
        else if step then step_at names ws
        else does_at names w ws)
    unfolding does_at
    body_tells w ws begun true host step = refl
    body_tells w ws true false true step = refl
    body_tells w ws false false true step = host_line.tells ws
    body_tells w ws begun false false true = step_line.tells ws
    body_tells w ws begun false false false =
        ap (λ (b : Bool). if b then directive_fault names ws else Some faults.Host) (is_among-found names w)
        ∙ by_host_tells ws (host_named names w)

    pub item_tells : (begun : Bool) (w : List ℕ) (ws : Words) → item_fault names begun w ws ≡ fault_in (item_at names begun (w ∷ ws))
    unfolding item_at
    item_tells begun w ws =
        first_word_tells Item (item_body begun) w ws _
        (body_tells w ws begun (bytes_eq w (codes "volume")) (bytes_eq w (codes "host")) (bytes_eq w (codes "step")))

    -- a line of a host, whose name isn't one of the words that begin lines of their own
    does_again : (begun : Bool) (host : ℕ) (d : Directive) (w : List ℕ) (ws : Words) → IsNameOf names host w → Spells names ws d
        → Fits (length names) d → item_at names begun (w ∷ ws) ≡ Ok (Does host d)
    unfolding item_at does_at
    does_again begun host d w ws is spells fits =
        let name = are.hosts host w is in
        let volume = or_parts (bytes_eq w (codes "volume") || bytes_eq w (codes "host")) (bytes_eq w (codes "step")) name.free in
        let others = or_parts (bytes_eq w (codes "volume")) (bytes_eq w (codes "host")) volume.0 in
        let o0 : bytes_eq w (codes "volume") ≡ false = others.0 in
        let o1 : bytes_eq w (codes "host") ≡ false = others.1 in
        let o2 : bytes_eq w (codes "step") ≡ false = volume.1 in
        first_word_again Item (item_body begun) w ws (is_word-label w (label_means w name.label))
        ∙ rw (o0, o1, o2, host_named-from names are w host is, directive_again names are ws d spells fits) refl

    pub item_again : (begun : Bool) (ws : Words) (item : Item) → SaysItem names begun ws item → item_at names begun ws ≡ Ok item
    unfolding item_at word_at
    item_again begun ws (Volume id g) h = absurd h.stands
    item_again begun ws (Host name) h =
        let again : host_line_at names (name ∷ []) ≡ Ok (Host name) =
        host_line.again (name ∷ []) (Host name) (record { value = (name, tt); is = refl; fits = ((h.stands.0, h.stands.1), tt); made = refl }) in
        ap (item_at names begun) h.spells
        ∙ (ap (λ (b : Bool). if b then Err faults.Host else host_line_at names (name ∷ [])) h.stands.2 ∙ again)
    item_again begun ws (Does host d) h =
        ap (item_at names begun) h.spells.3 ∙ does_again begun host d h.spells.0 h.spells.1 h.spells.2 h.spells.4 h.stands
    item_again begun ws (Step host count) h =
        let word : h.spells.0 ≡ name_at names host = sym (get_or_from_slice_get names host h.spells.0 [] h.spells.1) in
        ap (item_at names begun) (h.spells.2 ∙ ap (λ (w : List ℕ). codes "step" ∷ w ∷ decimal count ∷ []) word)
        ∙ step_line.again (name_at names host ∷ decimal count ∷ []) (Step host count)
        (record { value = (host, (count, tt)); is = refl; fits = (h.stands.0, ((h.stands.1, h.stands.2), tt)); made = refl })
