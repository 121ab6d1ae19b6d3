-- The fields of bodies that planners make.
use Rattle.std.specs.Prelude.{◌≡◌, ℕ, ◌+◌, replicate, slice_set, Some}
use Rattle.ds_base.specs.declared.names.NodeKind.{NodeKind}
use Rattle.ds_fd.specs.Body.{links_of}
use Rattle.ds_fd.specs.declared.body.Body.{Body}

-- the fields of an empty object in a life
pub record IsEmptyBody (b : Body) (o : ℕ) (kind : NodeKind) (birth : ℕ) : Type 0 where
  pub object : b.object ≡ o
  pub kind_is : b.kind ≡ Some kind
  pub links : b.links ≡ links_of (Some kind)
  pub birth_is : b.birth ≡ birth
  pub count : b.count ≡ 0
  pub addresses : b.addresses ≡ replicate 96 0

-- the fields of a directory's body with one sub-block more
pub record IsGrownBody (b : Body) (dir : Body) (n : ℕ) : Type 0 where
  pub object : b.object ≡ dir.object
  pub kind_is : b.kind ≡ dir.kind
  pub links : b.links ≡ dir.links
  pub birth : b.birth ≡ dir.birth
  pub count : b.count ≡ dir.count + 1
  pub addresses : b.addresses ≡ slice_set dir.addresses dir.count n
