use Rattle.std.proofs.Common.{◌≡◌, ◌<◌, ℕ, [], ◌∷◌, length, sym, ap, subst, ◌∙◌, arith}
use Rattle.std.specs.Prelude.{fold}
use Rattle.std.specs.FinMap as maps
use Rattle.ds_tree.specs.Nodes.{FileTree, fresh_tree}
use Rattle.ds_tree.specs.FirstForm.{first_geom}
use Rattle.ds_world.specs.FirstTrees.{with_room, with_name, IsRooted, FitsIn}
use Rattle.ds_world.proofs.FirstTreeBuilt.{rooted_is_dir, built, four_fit}
use Rattle.ds_world.proofs.first_tree.tree_of_four.Goals as goal

pub put_file-requires : goal.put_file-requires
put_file-requires c =
    let fits = four_fit c.args.first.now c.args.second.now c.args.third.now c.args.fourth.now c.requires.numbered in
    let fresh : c.in_ok-tree.tree.tree ≡ fresh_tree first_geom = c.in_ok-tree.ensures.tree ∙ ap fresh_tree c.requires.geom in
    let count : length c.in_ok-tree.tree.tree.objects ≡ 16 = ap (λ (t : FileTree). length t.objects) fresh in
    subst (λ (n : ℕ). FitsIn n c.args.first.now) (sym count) fits.0

pub put_file-requires-2 : goal.put_file-requires-2
put_file-requires-2 c =
    let fits = four_fit c.args.first.now c.args.second.now c.args.third.now c.args.fourth.now c.requires.numbered in
    let fresh : c.in_ok-tree.tree.tree ≡ fresh_tree first_geom = c.in_ok-tree.ensures.tree ∙ ap fresh_tree c.requires.geom in
    let count : length c.in_ok-tree.tree.tree.objects ≡ 16 = ap (λ (t : FileTree). length t.objects) fresh in
    subst (λ (n : ℕ). FitsIn n c.args.second.now) (sym (c.put_file.ensures.count ∙ count)) fits.1.0

pub put_file-requires-3 : goal.put_file-requires-3
put_file-requires-3 c =
    let fits = four_fit c.args.first.now c.args.second.now c.args.third.now c.args.fourth.now c.requires.numbered in
    let fresh : c.in_ok-tree.tree.tree ≡ fresh_tree first_geom = c.in_ok-tree.ensures.tree ∙ ap fresh_tree c.requires.geom in
    let count : length c.in_ok-tree.tree.tree.objects ≡ 16 = ap (λ (t : FileTree). length t.objects) fresh in
    subst (λ (n : ℕ). FitsIn n c.args.third.now) (sym (c.put_file-2.ensures.count ∙ c.put_file.ensures.count ∙ count)) fits.1.1.0

pub put_file-requires-4 : goal.put_file-requires-4
put_file-requires-4 c =
    let fits = four_fit c.args.first.now c.args.second.now c.args.third.now c.args.fourth.now c.requires.numbered in
    let fresh : c.in_ok-tree.tree.tree ≡ fresh_tree first_geom = c.in_ok-tree.ensures.tree ∙ ap fresh_tree c.requires.geom in
    let count : length c.in_ok-tree.tree.tree.objects ≡ 16 = ap (λ (t : FileTree). length t.objects) fresh in
    subst (λ (n : ℕ). FitsIn n c.args.fourth.now) (sym (c.put_file-3.ensures.count ∙ c.put_file-2.ensures.count ∙ c.put_file.ensures.count ∙ count)) fits.1.1.1.0

pub put_name-requires : goal.put_name-requires
put_name-requires c =
    let files = c.put_file-4.new.tree.tree in
    let fresh : c.in_ok-tree.tree.tree ≡ fresh_tree first_geom = c.in_ok-tree.ensures.tree ∙ ap fresh_tree c.requires.geom in
    let filed : files ≡ fold with_room (fresh_tree first_geom) (c.args.first.now ∷ c.args.second.now ∷ c.args.third.now ∷ c.args.fourth.now ∷ []) =
    c.put_file-4.ensures.tree ∙ ap (λ (t : FileTree). with_room t c.args.fourth.now) (c.put_file-3.ensures.tree
    ∙ ap (λ (t : FileTree). with_room t c.args.third.now) (c.put_file-2.ensures.tree
    ∙ ap (λ (t : FileTree). with_room t c.args.second.now) (c.put_file.ensures.tree
    ∙ ap (λ (t : FileTree). with_room t c.args.first.now) fresh))) in
    let count : length files.objects ≡ 16 = c.put_file-4.ensures.count ∙ c.put_file-3.ensures.count ∙ c.put_file-2.ensures.count ∙ c.put_file.ensures.count ∙ ap (λ (t : FileTree). length t.objects) fresh in
    let some : 0 < length files.objects = omega (arith, count) in
    let root : IsRooted files maps.empty c.args.rooms c.put_dir.new.self.tree = c.put_dir.ensures.tree in
    rooted_is_dir files maps.empty c.args.rooms c.put_dir.new.self.tree some root

pub put_name-requires-2 : goal.put_name-requires-2
put_name-requires-2 c =
    let files = c.put_file-4.new.tree.tree in
    let fresh : c.in_ok-tree.tree.tree ≡ fresh_tree first_geom = c.in_ok-tree.ensures.tree ∙ ap fresh_tree c.requires.geom in
    let filed : files ≡ fold with_room (fresh_tree first_geom) (c.args.first.now ∷ c.args.second.now ∷ c.args.third.now ∷ c.args.fourth.now ∷ []) =
    c.put_file-4.ensures.tree ∙ ap (λ (t : FileTree). with_room t c.args.fourth.now) (c.put_file-3.ensures.tree
    ∙ ap (λ (t : FileTree). with_room t c.args.third.now) (c.put_file-2.ensures.tree
    ∙ ap (λ (t : FileTree). with_room t c.args.second.now) (c.put_file.ensures.tree
    ∙ ap (λ (t : FileTree). with_room t c.args.first.now) fresh))) in
    let count : length files.objects ≡ 16 = c.put_file-4.ensures.count ∙ c.put_file-3.ensures.count ∙ c.put_file-2.ensures.count ∙ c.put_file.ensures.count ∙ ap (λ (t : FileTree). length t.objects) fresh in
    let some : 0 < length files.objects = omega (arith, count) in
    let root : IsRooted files maps.empty c.args.rooms c.put_dir.new.self.tree = c.put_dir.ensures.tree in
    let root1 : IsRooted files (with_name maps.empty c.args.fourth.now) c.args.rooms c.put_name.new.tree.tree = c.in_ok-put_name.ensures.named files maps.empty c.args.rooms some root in
    rooted_is_dir files _ c.args.rooms c.put_name.new.tree.tree some root1

pub put_name-requires-3 : goal.put_name-requires-3
put_name-requires-3 c =
    let files = c.put_file-4.new.tree.tree in
    let fresh : c.in_ok-tree.tree.tree ≡ fresh_tree first_geom = c.in_ok-tree.ensures.tree ∙ ap fresh_tree c.requires.geom in
    let filed : files ≡ fold with_room (fresh_tree first_geom) (c.args.first.now ∷ c.args.second.now ∷ c.args.third.now ∷ c.args.fourth.now ∷ []) =
    c.put_file-4.ensures.tree ∙ ap (λ (t : FileTree). with_room t c.args.fourth.now) (c.put_file-3.ensures.tree
    ∙ ap (λ (t : FileTree). with_room t c.args.third.now) (c.put_file-2.ensures.tree
    ∙ ap (λ (t : FileTree). with_room t c.args.second.now) (c.put_file.ensures.tree
    ∙ ap (λ (t : FileTree). with_room t c.args.first.now) fresh))) in
    let count : length files.objects ≡ 16 = c.put_file-4.ensures.count ∙ c.put_file-3.ensures.count ∙ c.put_file-2.ensures.count ∙ c.put_file.ensures.count ∙ ap (λ (t : FileTree). length t.objects) fresh in
    let some : 0 < length files.objects = omega (arith, count) in
    let root : IsRooted files maps.empty c.args.rooms c.put_dir.new.self.tree = c.put_dir.ensures.tree in
    let root1 : IsRooted files (with_name maps.empty c.args.fourth.now) c.args.rooms c.put_name.new.tree.tree = c.in_ok-put_name.ensures.named files maps.empty c.args.rooms some root in
    let root2 : IsRooted files (with_name (with_name maps.empty c.args.fourth.now) c.args.third.now) c.args.rooms c.put_name-2.new.tree.tree = c.in_ok-put_name-2.ensures.named files _ c.args.rooms some root1 in
    rooted_is_dir files _ c.args.rooms c.put_name-2.new.tree.tree some root2

pub put_name-requires-4 : goal.put_name-requires-4
put_name-requires-4 c =
    let files = c.put_file-4.new.tree.tree in
    let fresh : c.in_ok-tree.tree.tree ≡ fresh_tree first_geom = c.in_ok-tree.ensures.tree ∙ ap fresh_tree c.requires.geom in
    let filed : files ≡ fold with_room (fresh_tree first_geom) (c.args.first.now ∷ c.args.second.now ∷ c.args.third.now ∷ c.args.fourth.now ∷ []) =
    c.put_file-4.ensures.tree ∙ ap (λ (t : FileTree). with_room t c.args.fourth.now) (c.put_file-3.ensures.tree
    ∙ ap (λ (t : FileTree). with_room t c.args.third.now) (c.put_file-2.ensures.tree
    ∙ ap (λ (t : FileTree). with_room t c.args.second.now) (c.put_file.ensures.tree
    ∙ ap (λ (t : FileTree). with_room t c.args.first.now) fresh))) in
    let count : length files.objects ≡ 16 = c.put_file-4.ensures.count ∙ c.put_file-3.ensures.count ∙ c.put_file-2.ensures.count ∙ c.put_file.ensures.count ∙ ap (λ (t : FileTree). length t.objects) fresh in
    let some : 0 < length files.objects = omega (arith, count) in
    let root : IsRooted files maps.empty c.args.rooms c.put_dir.new.self.tree = c.put_dir.ensures.tree in
    let root1 : IsRooted files (with_name maps.empty c.args.fourth.now) c.args.rooms c.put_name.new.tree.tree = c.in_ok-put_name.ensures.named files maps.empty c.args.rooms some root in
    let root2 : IsRooted files (with_name (with_name maps.empty c.args.fourth.now) c.args.third.now) c.args.rooms c.put_name-2.new.tree.tree = c.in_ok-put_name-2.ensures.named files _ c.args.rooms some root1 in
    let root3 : IsRooted files (with_name (with_name (with_name maps.empty c.args.fourth.now) c.args.third.now) c.args.second.now) c.args.rooms c.put_name-3.new.tree.tree = c.in_ok-put_name-3.ensures.named files _ c.args.rooms some root2 in
    rooted_is_dir files _ c.args.rooms c.put_name-3.new.tree.tree some root3

pub returns-clause-tree : goal.returns-clause-tree
returns-clause-tree c =
    let files = c.put_file-4.new.tree.tree in
    let fresh : c.in_ok-tree.tree.tree ≡ fresh_tree first_geom = c.in_ok-tree.ensures.tree ∙ ap fresh_tree c.requires.geom in
    let filed : files ≡ fold with_room (fresh_tree first_geom) (c.args.first.now ∷ c.args.second.now ∷ c.args.third.now ∷ c.args.fourth.now ∷ []) =
    c.put_file-4.ensures.tree ∙ ap (λ (t : FileTree). with_room t c.args.fourth.now) (c.put_file-3.ensures.tree
    ∙ ap (λ (t : FileTree). with_room t c.args.third.now) (c.put_file-2.ensures.tree
    ∙ ap (λ (t : FileTree). with_room t c.args.second.now) (c.put_file.ensures.tree
    ∙ ap (λ (t : FileTree). with_room t c.args.first.now) fresh))) in
    let count : length files.objects ≡ 16 = c.put_file-4.ensures.count ∙ c.put_file-3.ensures.count ∙ c.put_file-2.ensures.count ∙ c.put_file.ensures.count ∙ ap (λ (t : FileTree). length t.objects) fresh in
    let some : 0 < length files.objects = omega (arith, count) in
    let root : IsRooted files maps.empty c.args.rooms c.put_dir.new.self.tree = c.put_dir.ensures.tree in
    let root1 : IsRooted files (with_name maps.empty c.args.fourth.now) c.args.rooms c.put_name.new.tree.tree = c.in_ok-put_name.ensures.named files maps.empty c.args.rooms some root in
    let root2 : IsRooted files (with_name (with_name maps.empty c.args.fourth.now) c.args.third.now) c.args.rooms c.put_name-2.new.tree.tree = c.in_ok-put_name-2.ensures.named files _ c.args.rooms some root1 in
    let root3 : IsRooted files (with_name (with_name (with_name maps.empty c.args.fourth.now) c.args.third.now) c.args.second.now) c.args.rooms c.put_name-3.new.tree.tree = c.in_ok-put_name-3.ensures.named files _ c.args.rooms some root2 in
    let root4 : IsRooted files (with_name (with_name (with_name (with_name maps.empty c.args.fourth.now) c.args.third.now) c.args.second.now) c.args.first.now) c.args.rooms c.put_name-4.new.tree.tree = c.in_ok-put_name-4.ensures.named files _ c.args.rooms some root3 in
    built c.args.first.now c.args.second.now c.args.third.now c.args.fourth.now c.args.rooms files c.put_name-4.new.tree.tree c.requires.numbered filed c.requires.rooms root4
