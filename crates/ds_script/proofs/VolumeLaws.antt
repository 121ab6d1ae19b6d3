-- What a volume line owes.
use Rattle.std.proofs.Common.{◌≡◌, ℕ, Bool, true, false, List, [], ◌∷◌, length, Ok, Err, Some, refl, ap, sym, ◌∙◌, subst, arith}
use Rattle.std.specs.Prelude.{IfOk, codes, decimal, slice_index, if◌then◌else◌}
use Rattle.std.specs.Str.{bytes_eq}
use Rattle.ds_base.specs.declared.geometry.Geom.{Geom}
use Rattle.ds_base.specs.declared.geometry.GeomField.{GeomField}
use Rattle.ds_base.specs.declared.geometry.GeomField.TheVariants as fields
use Rattle.ds_base.specs.declared.geometry.Kind.{Kind}
use Rattle.ds_base.specs.declared.geometry.Kind.TheVariants.{Fd, Sb, Pb, Fb}
use Rattle.ds_base.specs.Geometry.{IsGeom, most_of, clusters_of, per_cluster}
use Rattle.ds_tree.specs.Lines.{Words, is_word, is_comment}
use Rattle.ds_tree.specs.Grammar.{HasFourKinds, IsIdWord, Volume, SpellsItem, geometry_part}
use Rattle.ds_script.specs.declared.faults.LineFault.TheVariants as faults
use Rattle.ds_script.specs.Faults.{Shape, End, Then, Keyword, Size, Id, kind_shape, volume_shape, first_fault, line_fault}
use Rattle.ds_script.specs.Reading.{◌>>=◌, Reads, word_at, keyword_at, size_at, named_size_at, kind_at, geometry_at, id_at, volume_at, volume_line_at}
use Rattle.ds_script.proofs.Readers.{fault_in, first_word_means, first_word_tells, IsLine, Behind, IfOk-like, then_line, line_like, line_same}
use Rattle.ds_script.proofs.WordLaws.{bytes_eq-means}
use Rattle.ds_script.proofs.FieldLaws.{size_field}
use Rattle.ds_script.proofs.LookupLaws.{id_field}
use Rattle.ds_script.proofs.Written.{Written, written_end, written_then, written_keyword, twice}
use Rattle.ds_script.proofs.DirectiveLines.{IsWithin, number_one}

once : (A B C : Type 0) (r : Reads A) (f : A → Reads B) (g : B → Reads C) → ((r >>= f) >>= g) ≡ (r >>= (λ x. f x >>= g))
once A B C (Ok x) f g = refl
once A B C (Err e) f g = refl

-- The sizes.

abbrev IsSize : GeomField → ℕ → Type 0
IsSize field n = IsWithin 1 (most_of field) n

module _ (V B : Type 0) (shape : Shape) (words : V → Words) (Fit : V → Type 0) where
  size_line : (field : GeomField) (next : ℕ → Words → Reads B) (make : ℕ → V → B)
      → ((n : ℕ) → IsLine B [] shape (next n) (Written V B words Fit (make n)))
      → IsLine B [] (Then (Size field) shape) (λ ws. size_at field ws >>= (λ r. next r.0 r.1))
      (Written (ℕ × V) B (λ v. decimal v.0 ∷ words v.1) (λ v. IsSize field v.0 × Fit v.1) (λ v. make v.0 v.1))
  size_line field next make lines =
      written_then _ _ _ [] (Size field) shape (size_at field) next _ _ _ _ _ make (size_field [] field) (number_one 1 (most_of field)) lines

  named_size_line : (word : List ℕ) → is_word word ≡ true → (field : GeomField) (next : ℕ → Words → Reads B) (make : ℕ → V → B)
      → ((n : ℕ) → IsLine B [] shape (next n) (Written V B words Fit (make n)))
      → IsLine B [] (Then (Keyword word) (Then (Size field) shape)) (λ ws. named_size_at word field ws >>= (λ r. next r.0 r.1))
      (Written (ℕ × V) B (λ v. word ∷ decimal v.0 ∷ words v.1) (λ v. IsSize field v.0 × Fit v.1) (λ v. make v.0 v.1))
  unfolding named_size_at
  named_size_line word is field next make lines =
      line_same B [] _ (λ ws. keyword_at word ws >>= (λ behind. size_at field behind >>= (λ r. next r.0 r.1))) _ _
      (written_keyword (ℕ × V) B [] word (Then (Size field) shape) (λ behind. size_at field behind >>= (λ r. next r.0 r.1))
      (λ v. decimal v.0 ∷ words v.1) (λ v. IsSize field v.0 × Fit v.1) (λ v. make v.0 v.1) is (size_line field next make lines))
      (λ ws. once Words (ℕ × Words) B (keyword_at word ws) (size_at field) (λ r. next r.0 r.1))

module _ (V B : Type 0) (shape : Shape) (words : V → Words) (Fit : V → Type 0) where
  abbrev KindWritten : List ℕ → Kind → (ℕ → ℕ → V → B) → Words → B → Type 0
  KindWritten word kind make =
      Written (ℕ × (ℕ × V)) B (λ v. word ∷ decimal v.0 ∷ decimal v.1.0 ∷ words v.1.1)
      (λ v. IsSize (fields.Clusters kind) v.0 × (IsSize (fields.Items kind) v.1.0 × Fit v.1.1)) (λ v. make v.0 v.1.0 v.1.1)

  kind_line : (word : List ℕ) → is_word word ≡ true → (kind : Kind) (next : ℕ → ℕ → Words → Reads B) (make : ℕ → ℕ → V → B)
      → ((n m : ℕ) → IsLine B [] shape (next n m) (Written V B words Fit (make n m)))
      → IsLine B [] (kind_shape word kind shape) (λ ws. kind_at word kind ws >>= (λ r. next r.0.0 r.0.1 r.1)) (KindWritten word kind make)
  unfolding kind_at
  kind_line word is kind next make lines =
      line_same B [] _
      (λ ws. named_size_at word (fields.Clusters kind) ws >>= (λ n. size_at (fields.Items kind) n.1 >>= (λ m. next n.0 m.0 m.1))) _ _
      (named_size_line (ℕ × V) B (Then (Size (fields.Items kind)) shape) (λ v. decimal v.0 ∷ words v.1)
      (λ v. IsSize (fields.Items kind) v.0 × Fit v.1) word is (fields.Clusters kind)
      (λ n ws. size_at (fields.Items kind) ws >>= (λ m. next n m.0 m.1)) (λ n v. make n v.0 v.1)
      (λ n. size_line V B shape words Fit (fields.Items kind) (next n) (make n) (lines n)))
      (λ ws. twice (ℕ × Words) (ℕ × Words) ((ℕ × ℕ) × Words) B (named_size_at word (fields.Clusters kind) ws)
      (λ n. size_at (fields.Items kind) n.1) (λ n m. Ok ((n.0, m.0), m.1)) (λ r. next r.0.0 r.0.1 r.1))

-- The geometry.

abbrev pub Sizes : Type 0
Sizes = ℕ × (ℕ × (ℕ × (ℕ × (ℕ × (ℕ × (ℕ × (ℕ × (ℕ × (ℕ × Unit {0})))))))))

abbrev pub geom_from : (slots block a b c d e f g h : ℕ) → Geom
geom_from slots block a b c d e f g h = record { slots = slots; block = block; clusters = a ∷ c ∷ e ∷ g ∷ []; items = b ∷ d ∷ f ∷ h ∷ [] }

abbrev pub sizes_of : Geom → Sizes
sizes_of g = (
  g.slots,
  (
    g.block,
    (
      clusters_of g Fd,
      (
        per_cluster g Fd,
        (
          clusters_of g Sb,
          (
            per_cluster g Sb,
            (
              clusters_of g Pb,
              (
                per_cluster g Pb,
                (clusters_of g Fb, (per_cluster g Fb, tt)),
              ),
            ),
          ),
        ),
      ),
    ),
  ),
)

abbrev pub geom_of : Sizes → Geom
geom_of v =
    geom_from v.0 v.1.0 v.1.1.0 v.1.1.1.0 v.1.1.1.1.0 v.1.1.1.1.1.0 v.1.1.1.1.1.1.0 v.1.1.1.1.1.1.1.0 v.1.1.1.1.1.1.1.1.0
    v.1.1.1.1.1.1.1.1.1.0

abbrev AreSizes : Sizes → Type 0
AreSizes v =
    IsSize fields.Slots v.0 × (IsSize fields.Block v.1.0
    × (IsSize (fields.Clusters Fd) v.1.1.0 × (IsSize (fields.Items Fd) v.1.1.1.0
    × (IsSize (fields.Clusters Sb) v.1.1.1.1.0 × (IsSize (fields.Items Sb) v.1.1.1.1.1.0
    × (IsSize (fields.Clusters Pb) v.1.1.1.1.1.1.0 × (IsSize (fields.Items Pb) v.1.1.1.1.1.1.1.0
    × (IsSize (fields.Clusters Fb) v.1.1.1.1.1.1.1.1.0 × (IsSize (fields.Items Fb) v.1.1.1.1.1.1.1.1.1.0 × Unit {0})))))))))

abbrev geometry_shape : Shape
geometry_shape =
    Then (Keyword (codes "slots")) (Then (Size fields.Slots) (Then (Keyword (codes "block")) (Then (Size fields.Block)
    (kind_shape (codes "fd") Fd (kind_shape (codes "sb") Sb (kind_shape (codes "pb") Pb (kind_shape (codes "fb") Fb End)))))))

geometry_line : IsLine Geom [] geometry_shape geometry_at (Written Sizes Geom (λ v. geometry_part (geom_of v)) AreSizes geom_of)
unfolding geometry_at
geometry_line =
    named_size_line _ _ _ _ _ (codes "slots") refl fields.Slots _ _ (λ slots.
    named_size_line _ _ _ _ _ (codes "block") refl fields.Block _ _ (λ block.
    kind_line _ _ _ _ _ (codes "fd") refl Fd _ _ (λ a b.
    kind_line _ _ _ _ _ (codes "sb") refl Sb _ _ (λ c d.
    kind_line _ _ _ _ _ (codes "pb") refl Pb _ _ (λ e f.
    kind_line _ _ _ _ _ (codes "fb") refl Fb _ _ (λ g h.
    written_end Geom [] (geom_from slots block a b c d e f g h)))))))

four_in : (xs : List ℕ) → length xs ≡ 4
    → xs ≡ slice_index xs 0 ∷ slice_index xs 1 ∷ slice_index xs 2 ∷ slice_index xs 3 ∷ []
four_in [] e = absurd (omega (arith, e))
four_in (a ∷ []) e = absurd (omega (arith, e))
four_in (a ∷ b ∷ []) e = absurd (omega (arith, e))
four_in (a ∷ b ∷ c ∷ []) e = absurd (omega (arith, e))
four_in (a ∷ b ∷ c ∷ d ∷ []) e = refl
four_in (a ∷ b ∷ c ∷ d ∷ x ∷ xs) e = absurd (omega (arith, e))

pub geom_again : (g : Geom) → HasFourKinds g → g ≡ geom_of (sizes_of g)
geom_again g four =
    let of_clusters : List ℕ → Geom = λ xs. record g { clusters = xs } in
    let clusters = slice_index g.clusters 0 ∷ slice_index g.clusters 1 ∷ slice_index g.clusters 2 ∷ slice_index g.clusters 3 ∷ [] in
    let of_items : List ℕ → Geom = λ xs. record { slots = g.slots; block = g.block; clusters = clusters; items = xs } in
    ap of_clusters (four_in g.clusters four.clusters) ∙ ap of_items (four_in g.items four.items)

sizes_geom : (v : Sizes) → AreSizes v → IsGeom (geom_of v)
sizes_geom v h fields.Slots = h.0
sizes_geom v h fields.Block = h.1.0
sizes_geom v h (fields.Clusters Fd) = h.1.1.0
sizes_geom v h (fields.Items Fd) = h.1.1.1.0
sizes_geom v h (fields.Clusters Sb) = h.1.1.1.1.0
sizes_geom v h (fields.Items Sb) = h.1.1.1.1.1.0
sizes_geom v h (fields.Clusters Pb) = h.1.1.1.1.1.1.0
sizes_geom v h (fields.Items Pb) = h.1.1.1.1.1.1.1.0
sizes_geom v h (fields.Clusters Fb) = h.1.1.1.1.1.1.1.1.0
sizes_geom v h (fields.Items Fb) = h.1.1.1.1.1.1.1.1.1.0

geom_sizes : (g : Geom) → IsGeom g → AreSizes (sizes_of g)
geom_sizes g is = (
  is fields.Slots,
  (
    is fields.Block,
    (
      is (fields.Clusters Fd),
      (
        is (fields.Items Fd),
        (
          is (fields.Clusters Sb),
          (
            is (fields.Items Sb),
            (is (fields.Clusters Pb), (is (fields.Items Pb), (is (fields.Clusters Fb), (is (fields.Items Fb), tt)))),
          ),
        ),
      ),
    ),
  ),
)

-- a geometry and its words
record IsGeometry (ws : Words) (g : Geom) : Type 0 where
  is : ws ≡ geometry_part g
  four : HasFourKinds g
  geometry : IsGeom g

geometry_there : (ws : Words) (g : Geom) → Written Sizes Geom (λ v. geometry_part (geom_of v)) AreSizes geom_of ws g → IsGeometry ws g
geometry_there ws g h =
    subst (λ g. IsGeometry ws g) (sym h.made)
    (record { is = h.is; four = record { clusters = refl; items = refl }; geometry = sizes_geom h.value h.fits })

geometry_back : (ws : Words) (g : Geom) → IsGeometry ws g → Written Sizes Geom (λ v. geometry_part (geom_of v)) AreSizes geom_of ws g
geometry_back ws g h = record { value = sizes_of g; is = h.is; fits = geom_sizes g h.geometry; made = geom_again g h.four }

-- The line.

-- an id and a geometry, and the words for them
pub record IsVolume (ws : Words) (volume : List ℕ × Geom) : Type 0 where
  pub word : List ℕ
  pub id : IsIdWord word volume.0
  pub is : ws ≡ word ∷ geometry_part volume.1
  pub four : HasFourKinds volume.1
  pub geometry : IsGeom volume.1

record Paired (id : List ℕ) (ws : Words) (volume : List ℕ × Geom) : Type 0 where
  same : volume.0 ≡ id
  geometry : IsGeometry ws volume.1

abbrev paired_at : List ℕ → Words → Reads (List ℕ × Geom)
paired_at id ws = geometry_at ws >>= (λ geom. Ok (id, geom))

paired_means : (id : List ℕ) (ws : Words) (r : Reads Geom) → IfOk r (IsGeometry ws) → IfOk (r >>= (λ geom. Ok (id, geom))) (Paired id ws)
paired_means id ws (Ok g) h = record { same = refl; geometry = h }
paired_means id ws (Err f) h = tt

paired_tells : (id : List ℕ) (r : Reads Geom) → fault_in r ≡ fault_in {A = List ℕ × Geom} (r >>= (λ geom. Ok (id, geom)))
paired_tells id (Ok g) = refl
paired_tells id (Err f) = refl

paired_line : (id : List ℕ) → IsLine (List ℕ × Geom) [] geometry_shape (paired_at id) (Paired id)
paired_line id =
    let line : IsLine Geom [] geometry_shape geometry_at IsGeometry =
    line_like Geom [] geometry_shape geometry_at _ IsGeometry geometry_line geometry_there geometry_back in
    record {
      means = λ ws. paired_means id ws (geometry_at ws) (line.means ws);
      again = λ ws y h.
          let read : geometry_at ws ≡ Ok y.1 = line.again ws y.1 h.geometry in
          ap (λ (r : Reads Geom). r >>= (λ geom. Ok (id, geom))) read
          ∙ ap (λ (i : List ℕ). Ok (i, y.1)) (sym h.same);
      tells = λ ws. line.tells ws ∙ paired_tells id (geometry_at ws);
    }

volume_there : (ws : Words) (y : List ℕ × Geom) → Behind (List ℕ) (List ℕ × Geom) IsIdWord Paired ws y → IsVolume ws y
volume_there ws y h = record {
  word = h.word;
  id = subst (λ i. IsIdWord h.word i) (sym h.next.same) h.first;
  is = h.is ∙ ap (λ (r : Words). h.word ∷ r) h.next.geometry.is;
  four = h.next.geometry.four;
  geometry = h.next.geometry.geometry;
}

volume_back : (ws : Words) (y : List ℕ × Geom) → IsVolume ws y → Behind (List ℕ) (List ℕ × Geom) IsIdWord Paired ws y
volume_back ws y h = record {
  word = h.word;
  value = y.0;
  rest = geometry_part y.1;
  is = h.is;
  first = h.id;
  next = record { same = refl; geometry = record { is = refl; four = h.four; geometry = h.geometry } };
}

volume_line : IsLine (List ℕ × Geom) [] volume_shape volume_at IsVolume
unfolding volume_at
volume_line =
    line_like (List ℕ × Geom) [] volume_shape volume_at _ IsVolume
    (then_line (List ℕ) (List ℕ × Geom) [] IsIdWord Paired paired_at Id geometry_shape id_at (id_field []) paired_line) volume_there volume_back

-- the words are those of a volume line with this id and this geometry
pub record SaysVolume (ws : Words) (volume : List ℕ × Geom) : Type 0 where
  pub spells : SpellsItem [] ws (Volume volume.0 volume.1)
  pub four : HasFourKinds volume.1
  pub geometry : IsGeom volume.1

abbrev volume_body : List ℕ × Words → Reads (List ℕ × Geom)
volume_body w = if bytes_eq w.0 (codes "volume") then volume_at w.1 else Err faults.Volume

volume_word : (w : List ℕ) (ws : Words) (c : Bool) → (c ≡ true → w ≡ codes "volume") → IfOk (volume_at ws) (IsVolume ws)
    → IfOk (if c then volume_at ws else Err faults.Volume) (SaysVolume (w ∷ ws))
volume_word w ws false is h = tt
volume_word w ws true is h =
    IfOk-like (IsVolume ws) (SaysVolume (w ∷ ws)) (volume_at ws)
    (λ y v. record {
      spells = (v.word, v.id, ap (λ (first : List ℕ). first ∷ ws) (is refl) ∙ ap (λ (r : Words). codes "volume" ∷ r) v.is);
      four = v.four;
      geometry = v.geometry;
    })
    h

pub volume_line_means : (ws : Words) → IfOk (volume_line_at ws) (SaysVolume ws)
unfolding volume_line_at word_at
volume_line_means [] = tt
volume_line_means (w ∷ ws) =
    first_word_means (List ℕ × Geom) volume_body w ws (SaysVolume (w ∷ ws))
    (volume_word w ws (bytes_eq w (codes "volume")) (bytes_eq-means w (codes "volume")) (volume_line.means ws))

pub volume_line_again : (ws : Words) (y : List ℕ × Geom) → SaysVolume ws y → volume_line_at ws ≡ Ok y
unfolding volume_line_at word_at
volume_line_again ws y h =
    let says : IsVolume (h.spells.0 ∷ geometry_part y.1) y =
    record { word = h.spells.0; id = h.spells.1; is = refl; four = h.four; geometry = h.geometry } in
    ap volume_line_at h.spells.2 ∙ volume_line.again (h.spells.0 ∷ geometry_part y.1) y says

volume_tells : (ws : Words) (c : Bool)
    → (if c then first_fault [] volume_shape ws else Some faults.Volume) ≡ fault_in (if c then volume_at ws else Err faults.Volume)
volume_tells ws true = volume_line.tells ws
volume_tells ws false = refl

pub volume_line_tells : (ws : Words) → is_comment ws ≡ false → line_fault [] ws ≡ fault_in (volume_line_at ws)
unfolding volume_line_at
volume_line_tells [] kept = cc
volume_line_tells (w ∷ ws) kept =
    first_word_tells (List ℕ × Geom) volume_body w ws (if bytes_eq w (codes "volume") then first_fault [] volume_shape ws else Some faults.Volume)
    (volume_tells ws (bytes_eq w (codes "volume")))
