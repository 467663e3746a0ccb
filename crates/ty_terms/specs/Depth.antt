-- The depth of a type.
use Rattle.std.specs.Prelude.{ℕ, ◌+◌, max, List, [], ◌∷◌, map}
use Rattle.ty_terms.specs.declared.nodes.Node.{Node}
use Rattle.ty_terms.specs.declared.nodes.Node.TheVariants.{Method, TypeOf, Made, Slot, Statics, Init, Str, Blob}
use Rattle.ty_terms.specs.declared.nodes.Node.TheVariants.{TypeObj, Name, Maker, Invoke, Table}
use Rattle.ty_terms.specs.declared.ty.Ty.{Ty}
use Rattle.ty_terms.specs.declared.ty.Ty.TheOpen.{Ty-F}
use Rattle.ty_terms.specs.declared.ty.Ty.TheFolds.{fold-Ty}

-- the greatest of some numbers, 0 where there is none
abbrev pub greatest : List ℕ → ℕ
greatest [] = 0
greatest (n ∷ ns) = max n (greatest ns)

-- one layer of a type, with the depth of each inner type in its place
abbrev pub depth_step : Ty-F ℕ → ℕ
depth_step (Ty-F.Named id depths) = 1 + greatest depths
depth_step (Ty-F.Vector depth) = 1 + depth
depth_step (Ty-F.ByRef depth) = 1 + depth
depth_step _ = 1

-- 1 for a type with nothing inside, and else 1 more than the greatest depth inside
abbrev pub depth_of : Ty → ℕ
depth_of = fold-Ty ℕ depth_step

abbrev pub depth_of_all : List Ty → ℕ
depth_of_all types = greatest (map depth_of types)

-- the greatest depth of the types of a node, 0 where it has none
abbrev pub depth_of_node : Node → ℕ
depth_of_node (Method method) = max (depth_of method.owner) (depth_of_all method.args)
depth_of_node (Slot slot) = max (depth_of slot.owner) (depth_of_all slot.args)
depth_of_node (Invoke method) = max (depth_of method.owner) (depth_of_all method.args)
depth_of_node (Blob field) = depth_of field.owner
depth_of_node (Str units) = 0
depth_of_node (TypeOf ty) = depth_of ty
depth_of_node (Made ty) = depth_of ty
depth_of_node (Statics ty) = depth_of ty
depth_of_node (Init ty) = depth_of ty
depth_of_node (TypeObj ty) = depth_of ty
depth_of_node (Name ty) = depth_of ty
depth_of_node (Maker ty) = depth_of ty
depth_of_node (Table ty) = depth_of ty
