-- What the walks of the two functions that see a chunk's address have in common. Assumes `Logic`.
--     Ti, Bl               the rows of a title and of a block
--     Stored               the fields of a title that are stored
--     title_is, title_tells     the one value that has them
--     title_made           a title is made of the right to give a block back
--     title_known          it tells its value and gives the right
--     block_made           a block is made of its slots and its title
--     Makes, at_makes      the contract of `Slots::from_raw_parts`, and what it is called at
--     makes_goes           what it is handed
--     Parts, at_parts, parts_goes     the same of `Slots::into_raw_parts`
--     Pair                 the type of what that answers
use mathlib.Core.Path.{◌≡◌, refl, ap, ◌∙◌}
use mathlib.Core.Bool.{Bool}
use Prim.Native.Nat.{ℕ, ◌<◌, ◌^◌}
use mathlib.Core.List.{List, [], ◌∷◌}
use lib.ListN.{length}
use seplogic.Ra.Ura.{Ura}
use mir.Syntax.{w64}
use mir.Val.{Val, vint, vptr, vstruct, vcons, vnil, of_list}
use base.Logic.{SProp, ent, emp, id⊢}
use base.Fml.{Fml, Lft, Share, feq, fsep, flft}
use prog.Memory.{Memory}
use prog.Routine.{Routine}
use types.Logic.{Logic, sem}
use types.Kit.{‵, raw, ◌$◌, ◌∵◌, !, qed, done, move, use0, join, fsplit, fjoin, fpack, feq_i, flt_i}
use contract.Monad.{Fun, fact, fact_i}
use contract.BorrowLft.{◌⊑◌}
use denote.Laws.{Is}
use denote.RattleType.{RattleType, Denots, Valss, flat}
use denote.RawPtr.{Ptr, block_ptr, ptr_val}
use denote.Shadow.{pure_l}
use denote.Steps.{nothing}
use denote.Struct.Struct.{AreAll, Plains, Shape, Struct, Struct-Makes, within}
use denote.Struct.Owning.{shape}
use denote.Struct.Declared as Declared
use denote.Triple.Statement.{Contract}
use denote.Triple.Spec.{triple_of}
use denote.Signature.{type_at}
use Rattle.core.proofs.mem.Param.{El, R, el_x}
use Rattle.core.proofs.alloc.Calls.{Al, token}
use Rattle.core.proofs.slots.Leases.{P, block_ty}
use Rattle.core.proofs.slots.Opens.{Sr}
use Rattle.core.specs.Mem.Slots.Ownership.{owned}
use Rattle.core.specs.contracts.slots.Slots.from_raw_parts as made_of
use Rattle.core.specs.contracts.slots.Slots.into_raw_parts as taken_apart
use Rattle.raw_pool.specs.contracts.block.Title as T
use Rattle.raw_pool.specs.contracts.block.Block as B

-- a title as it is stored: nothing for whose it is, the number of places, the address of the first
abbrev pub title_val : Ptr → ℕ → Val
title_val p n = vstruct (of_list (vstruct vnil ∷ vint w64 n ∷ ptr_val p ∷ []))

abbrev pub block_val : Val → Val → Val
block_val w v = vstruct (vcons w (vcons v vnil))

module _ (E : El) (Z : Al) where
  abbrev pub Bl : RattleType
  Bl = B.the_row (R E) (P E Z) Z.g

  abbrev pub Ti : RattleType
  Ti = T.the_row (R E) (P E Z) Z.g

  -- the title to n places from o on in the block b, from the allocator a
  abbrev pub title : Z.row.Denot → ℕ → ℕ → ℕ → Ti.Denot
  title a b o n = record { by = record {}; places = n; start = block_ptr b o; alloc = a }

  -- the fields of a title that are stored, which is all of it but the allocator
  abbrev pub Stored : Shape
  Stored = shape (T.the_type (R E) (P E Z) Z.g)

  abbrev pub fields_of : Ptr → ℕ → Denots Stored.fields
  fields_of p n = (tt, (n, (p, tt)))

  -- each of them owns a fact alone
  pub facts_alone : Plains Stored.fields
  facts_alone = ((λ whose vs uss. (tt, tt)), ((λ count vs. (tt, tt)), ((λ place vs. tt), tt)))

  -- the stored value has the fields
  pub title_is : (p : Ptr) (n : ℕ) → n < 2 ^ 64 → Is (Struct Stored) (fields_of p n) (title_val p n ∷ [])
  title_is p n fits =
      let vals : Valss Stored.fields = (vstruct vnil ∷ [], (vint w64 n ∷ [], (ptr_val p ∷ [], tt))) in
      let whole : title_val p n ∷ [] ≡ vstruct (of_list (flat Stored.fields vals)) ∷ [] = refl in
      let each : AreAll Stored.fields (fields_of p n) vals = ((tt, (refl, tt)), ((refl, fits), (refl, tt))) in
      (vals, (whole, each))

  -- no other value has them
  pub title_tells : (p : Ptr) (n : ℕ) (vs : List Val)
      → Is (Struct Stored) (fields_of p n) vs → vs ≡ title_val p n ∷ []
  title_tells p n vs said =
      let vals : Valss Stored.fields = said.0 in
      let whose : vals.0 ≡ vstruct vnil ∷ [] = said.1.1.0.1.0 in
      let count : vals.1.0 ≡ vint w64 n ∷ [] = said.1.1.1.0.0 in
      let place : vals.1.1.0 ≡ ptr_val p ∷ [] = said.1.1.1.1.0 in
      said.1.0 ∙ ap (λ (us : Valss Stored.fields). vstruct (of_list (flat Stored.fields us)) ∷ [])
      (λ i. (whose i, (count i, (place i, tt))))

module _ {M : Type 1} {𝓤 : Ura M} (𝓛 : Logic 𝓤) (E : El) (Z : Al) where
  -- the right to give a block back
  abbrev pub right : Z.row.Denot → Ptr → ℕ → Fml
  right a p n = token Z a (block_ty E n) p

  -- the fields beside the right
  pub title_made : (b o n : ℕ) → n < 2 ^ 64 → (a : Z.row.Denot)
      → ent 𝓤 (sem 𝓛 (right a (block_ptr b o) n))
      (sem 𝓛 ((Ti E Z).own_val (title E Z a b o n) (title_val (block_ptr b o) n ∷ [])))
  title_made b o n fits a =
      let p : Ptr = block_ptr b o in
      let stored : Fml = (Struct (Stored E Z)).own_val (fields_of E Z p n) (title_val p n ∷ []) in
      let had : ent 𝓤 (emp 𝓤) (sem 𝓛 stored) =
      Struct-Makes 𝓛 (Stored E Z) (facts_alone E Z) (fields_of E Z p n) (title_val p n ∷ [])
      (title_is E Z p n fits) in
      qed 𝓛 (‵ (right a p n) ∷ []) ∵ use0 𝓛 (‵ stored) had $ fjoin ! $ done !

  -- what is had of a title: how it is stored, and its right
  abbrev pub known : (Ti E Z).Denot → List Val → Fml
  known d vs = fsep (feq (List Val) vs (title_val d.start d.places ∷ [])) (right d.alloc d.start d.places)

  pub title_known : (d : (Ti E Z).Denot) (vs : List Val)
      → ent 𝓤 (sem 𝓛 ((Ti E Z).own_val d vs)) (sem 𝓛 (known d vs))
  title_known d vs =
      qed 𝓛 (‵ ((Ti E Z).own_val d vs) ∷ []) ∵ fsplit ! $
      pure_l ! ((Struct (Stored E Z)).own_val (fields_of E Z d.start d.places) vs) (λ said.
      feq_i ! (List Val) vs (title_val d.start d.places ∷ []) (title_tells E Z d.start d.places vs said) $
      fjoin ! $ done !)

  -- the slots beside the title
  pub block_made : (r : (Sr E).Denot) (w : Val) (t : (Ti E Z).Denot) (v : Val)
      → ent 𝓤 (base.Logic.sep 𝓤 (sem 𝓛 ((Sr E).own_val r (w ∷ []))) (sem 𝓛 ((Ti E Z).own_val t (v ∷ []))))
      (sem 𝓛 ((Bl E Z).own_val (record { slots = r; title = t }) (block_val w v ∷ [])))
  block_made r w t v =
      let S : Shape = Declared.shape (B.the_type (R E) (P E Z) Z.g) in
      qed 𝓛 (‵ ((Sr E).own_val r (w ∷ [])) ∷ ‵ ((Ti E Z).own_val t (v ∷ [])) ∷ []) ∵
      nothing ! $ move ! (2 ∷ 0 ∷ []) $ fjoin ! $ move ! (1 ∷ 0 ∷ []) $ fjoin ! $
      feq_i ! (List Val) (block_val w v ∷ []) (block_val w v ∷ []) refl $ fjoin ! $
      fpack ! (Valss S.fields) (within S (r, (t, tt)) (block_val w v ∷ [])) (w ∷ [], (v ∷ [], tt)) $ done !

module _ (E : El) {M : Type 1} {𝓤 : Ura M} (𝓛 : Logic 𝓤) (at_mem : Memory → SProp 𝓤) (run : Routine → Fun 𝓤) where
  open 𝓛 use {H}

  abbrev pub Makes : Contract 𝓤
  Makes = triple_of 𝓛 (made_of.signature E.row) (made_of.spec E.row 𝓛 at_mem run)

  abbrev pub at_makes : Lft → Share → ℕ → ℕ → ℕ → List (el_x E) → List Bool → Makes.Ghost
  at_makes τ q b o n xs fs =
      (((τ, tt), (q, tt), tt, (block_ptr b o, (n, tt)), (vptr b o ∷ [], (vint w64 n ∷ [], tt))), (xs, fs))

  module _ (τ : Lft) (q : Share) (b o n : ℕ) (xs : List (el_x E)) (fs : List Bool) where
    pub makes_goes : τ ⊑ E.row.lives → n < 2 ^ 64 → (n ≡ length xs) × (n ≡ length fs)
        → ent 𝓤 (base.Logic.sep 𝓤 (sem 𝓛 (owned (R E) (block_ptr b o) n xs fs)) (𝓛.A.lft τ q))
        (Makes.pre (at_makes τ q b o n xs fs))
    makes_goes le fits counts =
        qed 𝓛 (‵ (owned (R E) (block_ptr b o) n xs fs) ∷ ‵ (flft τ q) ∷ []) ∵
        use0 𝓛 (raw (fact 𝓤 ((n ≡ length xs) × (n ≡ length fs))))
        (fact_i 𝓤 ((n ≡ length xs) × (n ≡ length fs)) (emp 𝓤) counts) $ join ! $
        use0 𝓛 (raw (fact 𝓤 (τ ⊑ E.row.lives))) (fact_i 𝓤 (τ ⊑ E.row.lives) (emp 𝓤) le) $ join ! $
        nothing ! $ flt_i ! n (2 ^ 64) fits $ feq_i ! (List Val) (vint w64 n ∷ []) (vint w64 n ∷ []) refl $ fjoin ! $
        fjoin ! $
        feq_i ! (List Val) (vptr b o ∷ []) (vptr b o ∷ []) refl $ fjoin ! $
        -- [the parameters; the condition; the token]
        nothing ! $ move ! (3 ∷ 0 ∷ []) $ join ! $ join ! $ join ! $ done !

  -- ---- the contract of `Slots::into_raw_parts`
  abbrev pub Parts : Contract 𝓤
  Parts = triple_of 𝓛 (taken_apart.signature E.row) (taken_apart.spec E.row 𝓛 at_mem run)

  -- a pointer and a number, as it answers them
  abbrev pub Pair : Lft → RattleType
  Pair τ = type_at (taken_apart.signature E.row).result (τ, tt)

  abbrev pub at_parts : Lft → Share → (it : (Sr E).Denot) → List Val → Parts.Ghost
  at_parts τ q it vs = (((τ, tt), (q, tt), tt, (it, tt), (vs, tt)), tt)

  pub parts_goes : (τ : Lft) (q : Share) (it : (Sr E).Denot) (vs : List Val) → τ ⊑ E.row.lives
      → ent 𝓤 (base.Logic.sep 𝓤 (sem 𝓛 ((Sr E).own_val it vs)) (𝓛.A.lft τ q)) (Parts.pre (at_parts τ q it vs))
  parts_goes τ q it vs le =
      qed 𝓛 (‵ ((Sr E).own_val it vs) ∷ ‵ (flft τ q) ∷ []) ∵
      use0 𝓛 (raw (fact 𝓤 (τ ⊑ E.row.lives))) (fact_i 𝓤 (τ ⊑ E.row.lives) (emp 𝓤) le) $
      nothing ! $ move ! (2 ∷ 0 ∷ []) $ fjoin ! $
      -- [the parameter; the condition; the token]
      nothing ! $ move ! (3 ∷ 0 ∷ []) $ join ! $ move ! (0 ∷ 1 ∷ []) $ join ! $ nothing ! $ move ! (2 ∷ 0 ∷ []) $ join !
      $ move ! (1 ∷ 0 ∷ []) $ join ! $ done !
