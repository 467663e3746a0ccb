-- Names, nodes and entries that their orders do not tell apart are the same.
use Rattle.std.proofs.Common.{◌≡◌, ap}
use Rattle.std.specs.declared.cmp.Ordering.{Ordering}
use Rattle.std.specs.declared.cmp.Ordering.TheVariants.{Equal}
use Rattle.std.specs.Ordering.{ordering_then, nat_cmp}
use Rattle.std.specs.Cmp.Lexicographic.{slice_cmp}
use Rattle.ty_terms.specs.declared.names.MethodId.{MethodId}
use Rattle.ty_terms.specs.declared.names.FieldName.{FieldName}
use Rattle.ty_terms.specs.declared.names.MethodName.{MethodName}
use Rattle.ty_terms.specs.declared.names.Slot.{Slot as SlotName}
use Rattle.ty_terms.specs.declared.nodes.Node.{Node}
use Rattle.ty_terms.specs.declared.nodes.Node.TheVariants.{Method, TypeOf, Made, Slot, Statics, Init, Str, Blob}
use Rattle.ty_terms.specs.declared.nodes.Node.TheVariants.{TypeObj, Name, Maker, Invoke, Table}
use Rattle.ty_terms.specs.declared.nodes.DictEntry.{DictEntry}
use Rattle.ty_terms.specs.declared.nodes.DictEntry.TheVariants.{OfType, OfMethod, OfStatics, OfSlot}
use Rattle.ty_terms.specs.contracts.nodes.NodeOrd.TheImpl as node
use Rattle.ty_terms.specs.contracts.nodes.DictEntryOrd.TheImpl as entry
use Rattle.ty_terms.specs.Order.{order}
use Rattle.ty_terms.specs.OrderLaws.{then_equal, nat_exact, numbers_exact, type_exact, types_exact}

abbrev method_ids : MethodId → MethodId → Ordering
method_ids a b = ordering_then (nat_cmp a.module b.module) (nat_cmp a.row b.row)

method_id_exact : (a b : MethodId) → method_ids a b ≡ Equal → a ≡ b
method_id_exact a b e =
    let both = then_equal (nat_cmp a.module b.module) (nat_cmp a.row b.row) e in
    let first = nat_exact a.module b.module both.0 in
    let second = nat_exact a.row b.row both.1 in
    λ i. record { «module» = first i; row = second i }

abbrev field_names : FieldName → FieldName → Ordering
field_names a b = ordering_then (order a.owner b.owner) (nat_cmp a.row b.row)

pub field_name_exact : (a b : FieldName) → field_names a b ≡ Equal → a ≡ b
field_name_exact a b e =
    let both = then_equal (order a.owner b.owner) (nat_cmp a.row b.row) e in
    let first = type_exact a.owner b.owner both.0 in
    let second = nat_exact a.row b.row both.1 in
    λ i. record { owner = first i; row = second i }

abbrev method_names : MethodName → MethodName → Ordering
method_names a b =
    ordering_then (order a.owner b.owner) (ordering_then (method_ids a.method b.method) (slice_cmp order a.args b.args))

pub method_name_exact : (a b : MethodName) → method_names a b ≡ Equal → a ≡ b
method_name_exact a b e =
    let owners =
    then_equal (order a.owner b.owner) (ordering_then (method_ids a.method b.method)
    (slice_cmp order a.args b.args)) e in
    let others = then_equal (method_ids a.method b.method) (slice_cmp order a.args b.args) owners.1 in
    let first = type_exact a.owner b.owner owners.0 in
    let second = method_id_exact a.method b.method others.0 in
    let third = types_exact a.args b.args others.1 in
    λ i. record { owner = first i; method = second i; args = third i }

abbrev slots : SlotName → SlotName → Ordering
slots a b =
    ordering_then (order a.owner b.owner) (ordering_then (method_ids a.method b.method) (slice_cmp order a.args b.args))

pub slot_exact : (a b : SlotName) → slots a b ≡ Equal → a ≡ b
slot_exact a b e =
    let owners =
    then_equal (order a.owner b.owner) (ordering_then (method_ids a.method b.method)
    (slice_cmp order a.args b.args)) e in
    let others = then_equal (method_ids a.method b.method) (slice_cmp order a.args b.args) owners.1 in
    let first = type_exact a.owner b.owner owners.0 in
    let second = method_id_exact a.method b.method others.0 in
    let third = types_exact a.args b.args others.1 in
    λ i. record { owner = first i; method = second i; args = third i }

pub entry_exact : (a b : DictEntry) → entry.ghosts.cmp a b ≡ Equal → a ≡ b
entry_exact (OfType a) (OfType b) e = ap OfType (type_exact a b e)
entry_exact (OfMethod a) (OfMethod b) e = ap OfMethod (method_name_exact a b e)
entry_exact (OfStatics a) (OfStatics b) e = ap OfStatics (type_exact a b e)
entry_exact (OfSlot a) (OfSlot b) e = ap OfSlot (slot_exact a b e)
entry_exact _ _ e = cc

pub node_exact : (a b : Node) → node.ghosts.cmp a b ≡ Equal → a ≡ b
node_exact (Method a) (Method b) e = ap Method (method_name_exact a b e)
node_exact (TypeOf a) (TypeOf b) e = ap TypeOf (type_exact a b e)
node_exact (Made a) (Made b) e = ap Made (type_exact a b e)
node_exact (Slot a) (Slot b) e = ap Slot (slot_exact a b e)
node_exact (Statics a) (Statics b) e = ap Statics (type_exact a b e)
node_exact (Init a) (Init b) e = ap Init (type_exact a b e)
node_exact (Str a) (Str b) e = ap Str (numbers_exact a b e)
node_exact (Blob a) (Blob b) e = ap Blob (field_name_exact a b e)
node_exact (TypeObj a) (TypeObj b) e = ap TypeObj (type_exact a b e)
node_exact (Name a) (Name b) e = ap Name (type_exact a b e)
node_exact (Maker a) (Maker b) e = ap Maker (type_exact a b e)
node_exact (Invoke a) (Invoke b) e = ap Invoke (method_name_exact a b e)
node_exact (Table a) (Table b) e = ap Table (type_exact a b e)
node_exact _ _ e = cc
