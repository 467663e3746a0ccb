-- Where control comes to from an instruction that can be done.
use Rattle.std.proofs.Common.{◌≡◌, ◌∙◌, ℕ, suc, ◌+◌, ◌<◌, ◌≤◌, Bool, true, false, ◌||◌, cond, nat_eq, nat_le, eq-eqb}
use Rattle.std.proofs.Common.{ne_eqb, List, [], ◌∷◌, ◌++◌, length, length-append, slice_index_or, slice_get, All, Some}
use Rattle.std.proofs.Common.{None, refl, ap, sym, subst, arith}
use Rattle.std.specs.List.{AllPass, list_all}
use Rattle.std.proofs.lemmas.List.Sums.{AllPass-from_list_all}
use Rattle.std.proofs.lemmas.Bool.Decides.{nat_tests}
use Rattle.il_code.specs.declared.body.Body.{Body}
use Rattle.il_code.specs.declared.body.Instr.{Instr}
use Rattle.il_code.specs.declared.operation.Operation.{Operation}
use Rattle.il_code.specs.Listing.{is_boundary}
use Rattle.ilc_build.specs.Code.{place_of, row_size}
use Rattle.ilc_build.specs.Bare.{IsBareCode, first_past}
use Rattle.ilc_build.specs.Depths.{IsBelow, first_against, is_reached, is_verified_at, known_at, leads_by, leads_to}
use Rattle.ilc_build.specs.Depths.{operation_at, operation_leads, passed_on, row, stays_inside}
use Rattle.ilc_build.specs.Typing.{depth_behind, takes, tiny_max_stack}
use Rattle.ilc_build.specs.declared.depths.Known.{Known}
use Rattle.ilc_build.specs.declared.depths.Known.TheVariants.{Depth, Clash}
use Rattle.il_code.proofs.Following.{Follow, follow, follow-few}
use Rattle.ilc_build.proofs.Knowing.{Ways, IsNothing, IsAll, IsSame, ways}
use Rattle.ilc_build.proofs.Place.{get_behind}
use Rattle.ilc_build.proofs.Splits.{AreBefore, holds-here, known_here}

-- an instruction that stands at an offset, with those before it and behind it
pub record Found (instrs : List Instr) (offset : ℕ) : Type 0 where
  pub done : List Instr
  pub i : Instr
  pub rest : List Instr
  pub split : instrs ≡ done ++ i ∷ rest
  pub here : i.at ≡ offset
  pub earlier : AreBefore i.at done

-- offsets rise
later : (at end offset : ℕ) (instrs : List Instr) → Follow at end instrs → is_boundary instrs offset ≡ true
    → at ≤ offset
later at end offset [] f e = cc
later at end offset (i ∷ instrs) f e = by (nat_eq i.at offset) refl e (later i.next end offset instrs f.2)
  where
    by : (b : Bool) → nat_eq i.at offset ≡ b → (b || is_boundary instrs offset) ≡ true
        → (is_boundary instrs offset ≡ true → i.next ≤ offset) → at ≤ offset
    by true t e more = let same : i.at ≡ offset = grind (arith, nat_tests) in omega (arith, same, f.0)
    by false t e more = omega (arith, f.1, more e)

pub found : (at end offset : ℕ) (instrs : List Instr) → Follow at end instrs → is_boundary instrs offset ≡ true
    → Found instrs offset
found at end offset [] f e = cc
found at end offset (i ∷ instrs) f e =
    by (nat_eq i.at offset) refl e (found i.next end offset instrs f.2) (later i.next end offset instrs f.2)
  where
    by : (b : Bool) → nat_eq i.at offset ≡ b → (b || is_boundary instrs offset) ≡ true
        → (is_boundary instrs offset ≡ true → Found instrs offset)
        → (is_boundary instrs offset ≡ true → i.next ≤ offset) → Found (i ∷ instrs) offset
    by true t e more above = let same : i.at ≡ offset = grind (arith, nat_tests) in
        record { done = []; i = i; rest = instrs; split = refl; here = same; earlier = tt }
    by false t e more above =
        let there : Found instrs offset = more e in
        let less : i.at < there.i.at = omega (arith, f.0, f.1, above e, there.here) in
        record {
          done = i ∷ there.done;
          i = there.i;
          rest = there.rest;
          split = ap (λ l. i ∷ l) there.split;
          here =
              there.here;
          earlier = (less, there.earlier);
        }

-- what a table tells no less than a depth is that depth, where the row can be done
depth_is : (d : ℕ) (k : Known) (i : Instr) → IsBelow (Depth d) k
    → (is_reached k ≡ true → is_verified_at tiny_max_stack k i ≡ true) → k ≡ Depth d
depth_is d k i within done = by (Depth d) k (ways (Depth d) k within) refl done
  where
    by : (a k : Known) → Ways a k → a ≡ Depth d → (is_reached k ≡ true → is_verified_at tiny_max_stack k i ≡ true)
        → k ≡ Depth d
    by _ k (IsNothing _) e done = cc
    by a _ (IsAll _) e done = absurd (let h : false ≡ true = done refl in cc)
    by a _ (IsSame _) e done = e

-- The row of an instruction to which a depth is passed on.
pub row_is : (code : List ℕ) (body : Body) (table : List Known) (offset d : ℕ) → IsBareCode code body table
    → (there : Found body.code offset) → IsBelow (Depth d) (known_at body.code table offset)
    → row table (length there.done) ≡ Depth d
row_is code body table offset d bare there within =
    let size : length table ≡ length (there.done ++ there.i ∷ there.rest) = bare.least.solution.size
    ∙ ap length there.split in
    let verified : first_against (is_verified_at tiny_max_stack) (there.done ++ there.i ∷ there.rest) table ≡ None =
    ap (λ l. first_against (is_verified_at tiny_max_stack) l table) (sym there.split) ∙ bare.verified in
    let here : known_at body.code table offset ≡ row table (length there.done) =
    ap (λ l. known_at l table offset) there.split
    ∙ ap (known_at (there.done ++ there.i ∷ there.rest) table) (sym there.here)
    ∙ known_here there.done there.rest there.i table size there.earlier in
    depth_is d (row table (length there.done)) there.i (subst (IsBelow (Depth d)) here within)
    (holds-here (is_verified_at tiny_max_stack) there.done there.rest there.i table size verified)

-- An instruction stands at the offset, and the table tells the depth of the stack before it.
pub record Lands (body : Body) (table : List Known) (offset d : ℕ) : Type 0 where
  pub there : Found body.code offset
  pub known : row table (length there.done) ≡ Depth d

past_is : (done rest : List Instr) (i : Instr) (table : List Known)
    → first_past (done ++ i ∷ rest) table ≡ first_against (stays_inside (done ++ i ∷ rest)) (done ++ i ∷ rest) table
past_is [] rest i table = refl
past_is (x ∷ done) rest i table = refl

-- each offset to which a reached instruction leads begins one
pub inside : (code : List ℕ) (body : Body) (table : List Known) (at d : ℕ) → IsBareCode code body table
    → (there : Found body.code at) → row table (length there.done) ≡ Depth d
    → AllPass (is_boundary body.code) (leads_to there.i)
inside code body table at d bare there known =
    let all : List Instr = there.done ++ there.i ∷ there.rest in
    let size : length table ≡ length all = bare.least.solution.size ∙ ap length there.split in
    let none : first_against (stays_inside all) all table ≡ None = sym (past_is there.done there.rest there.i table)
    ∙ ap (λ l. first_past l table) (sym there.split) ∙ bare.past in
    let holds : stays_inside all (row table (length there.done)) there.i ≡ true =
    holds-here (stays_inside all) there.done there.rest there.i table size none (ap is_reached known) in
    AllPass-from_list_all (is_boundary body.code) (leads_to there.i)
    (ap (λ l. list_all (is_boundary l) (leads_to there.i)) there.split ∙ holds)

behind_is : (d : ℕ) (operation : Operation) → takes operation ≤ d
    → passed_on (Depth d) (Some operation) ≡ Depth (depth_behind d operation)
behind_is d operation h = let test : nat_le (takes operation) d ≡ true = grind (arith, nat_tests) in
    ap (λ b. cond b (Depth (depth_behind d operation)) Clash) test

-- From an instruction that takes no more than there is, control comes to instructions with what it leaves.
pub lands : (code : List ℕ) (body : Body) (table : List Known) (at d : ℕ) (operation : Operation)
    → IsBareCode code body table → (there : Found body.code at) → row table (length there.done) ≡ Depth d
    → operation_at there.i ≡ Some operation → takes operation ≤ d
    → All (λ offset. Lands body table offset (depth_behind d operation)) (operation_leads operation there.i.next)
lands code body table at d operation bare there known does enough =
    let n : ℕ = length there.done in
    let i : Instr = there.i in
    let leads : leads_to i ≡ operation_leads operation i.next = ap (λ o. leads_by o i) does in
    let here : slice_get body.code n ≡ Some i = ap (λ l. slice_get l n) there.split
    ∙ get_behind there.done there.rest i in
    let all : length body.code ≡ n + suc (length there.rest) = ap length there.split
    ∙ length-append there.done (i ∷ there.rest) in
    let less : n < length body.code = omega (arith, all) in
    let passes : passed_on (row table n) (operation_at i) ≡ Depth (depth_behind d operation) =
    ap (λ k. passed_on k (operation_at i)) known ∙ ap (passed_on (Depth d)) does ∙ behind_is d operation enough in
    let told : All (λ offset. IsBelow (Depth (depth_behind d operation)) (known_at body.code table offset)) (leads_to i)
    =
    subst (λ k. All (λ offset. IsBelow k (known_at body.code table offset)) (leads_to i)) passes
    (bare.least.solution.closed n less i here) in
    let begin : AllPass (is_boundary body.code) (leads_to i) = inside code body table at d bare there known in
    let follows : Follow 0 (length code) body.code = follow code body.code bare.instructions in
    subst (All (λ offset. Lands body table offset (depth_behind d operation))) leads
    (λ k default h.
    let f : Found body.code (slice_index_or (leads_to i) k default) =
    found 0 (length code) (slice_index_or (leads_to i) k default) body.code follows (begin k default h) in
    record {
      there = f;
      known = row_is code body table (slice_index_or (leads_to i) k default)
          (depth_behind d operation) bare f (told k default h);
    })

-- ---- the place of the instruction behind

behind_follows : (at end : ℕ) (done rest : List Instr) (i : Instr) → Follow at end (done ++ i ∷ rest) → (i.at < i.next)
    × Follow i.next end rest
behind_follows at end [] rest i f = (omega (arith, f.0, f.1), f.2)
behind_follows at end (x ∷ done) rest i f = behind_follows x.next end done rest i f.2

-- no instruction begins at the end
ends : (at end offset : ℕ) (instrs : List Instr) → Follow at end instrs → is_boundary instrs offset ≡ true
    → offset < end
ends at end offset [] f e = cc
ends at end offset (i ∷ instrs) f e = by (nat_eq i.at offset) refl e (ends i.next end offset instrs f.2)
  where
    by : (b : Bool) → nat_eq i.at offset ≡ b → (b || is_boundary instrs offset) ≡ true
        → (is_boundary instrs offset ≡ true → offset < end) → offset < end
    by true t e more = let same : i.at ≡ offset = grind (arith, nat_tests) in
        omega (arith, same, f.0, f.1, follow-few i.next end instrs f.2)
    by false t e more = more e

place_behind : (done rest : List Instr) (i j : Instr) (table : List Known)
    → length table ≡ length (done ++ i ∷ j ∷ rest) → AreBefore i.at done → i.at < i.next → j.at ≡ i.next
    → place_of (done ++ i ∷ j ∷ rest) table i.next ≡ place_of (done ++ i ∷ j ∷ rest) table i.at + row_size
    (row table (length done)) (operation_at i)
place_behind [] rest i j [] size earlier later next =
    absurd (let e : 0 ≡ suc (suc (length rest)) = size in omega (arith, e))
place_behind [] rest i j (k ∷ []) size earlier later next =
    absurd (let e : 1 ≡ suc (suc (length rest)) = size in omega (arith, e))
place_behind [] rest i j (k ∷ l ∷ table) size earlier later next =
    let s : ℕ = row_size k (operation_at i) in
    let first : place_of (i ∷ j ∷ rest) (k ∷ l ∷ table) i.at ≡ 0 =
    ap (λ b. cond b 0 (s + place_of (j ∷ rest) (l ∷ table) i.at)) (eq-eqb i.at i.at refl) in
    let second : place_of (j ∷ rest) (l ∷ table) i.next ≡ 0 =
    ap (λ b. cond b 0 (row_size l (operation_at j) + place_of rest table i.next)) (eq-eqb j.at i.next next) in
    let there : place_of (i ∷ j ∷ rest) (k ∷ l ∷ table) i.next ≡ s + place_of (j ∷ rest) (l ∷ table) i.next =
    ap (λ b. cond b 0 (s + place_of (j ∷ rest) (l ∷ table) i.next)) (ne_eqb i.at i.next (omega (arith, later))) in
    omega (arith, first, second, there)
place_behind (x ∷ done) rest i j [] size earlier later next =
    absurd (let e : 0 ≡ suc (length (done ++ i ∷ j ∷ rest)) = size in omega (arith, e))
place_behind (x ∷ done) rest i j (k ∷ table) size earlier later next =
    let sizes : suc (length table) ≡ suc (length (done ++ i ∷ j ∷ rest)) = size in
    let all : List Instr = done ++ i ∷ j ∷ rest in
    let s : ℕ = row_size k (operation_at x) in
    let first : place_of (x ∷ all) (k ∷ table) i.at ≡ s + place_of all table i.at =
    ap (λ b. cond b 0 (s + place_of all table i.at)) (ne_eqb x.at i.at (omega (arith, earlier.0))) in
    let there : place_of (x ∷ all) (k ∷ table) i.next ≡ s + place_of all table i.next =
    ap (λ b. cond b 0 (s + place_of all table i.next)) (ne_eqb x.at i.next (omega (arith, earlier.0, later))) in
    let more : place_of all table i.next ≡ place_of all table i.at + row_size (row table (length done)) (operation_at i)
    = place_behind done rest i j table (omega (arith, sizes)) earlier.1 later next in
    omega (arith, first, there, more)

-- The code of the instruction behind stands behind the code of this one.
pub next_place : (end : ℕ) (instrs done rest : List Instr) (i : Instr) (table : List Known) → instrs ≡ done ++ i ∷ rest
    → Follow 0 end instrs → length table ≡ length instrs → AreBefore i.at done → is_boundary instrs i.next ≡ true
    → place_of instrs table i.next ≡ place_of instrs table i.at + row_size (row table (length done)) (operation_at i)
next_place end instrs done [] i table split f size earlier begin =
    let behind : (i.at < i.next) × Follow i.next end [] =
    behind_follows 0 end done [] i (subst (Follow 0 end) split f) in
    let over : i.next ≡ end = behind.1 in
    absurd (let less : i.next < end = ends 0 end i.next instrs f begin in omega (arith, over, less))
next_place end instrs done (j ∷ rest) i table split f size earlier begin =
    let behind : (i.at < i.next) × Follow i.next end (j ∷ rest) =
    behind_follows 0 end done (j ∷ rest) i (subst (Follow 0 end) split f) in
    let next : j.at ≡ i.next = behind.1.0 in
    ap (λ l. place_of l table i.next) split
    ∙ place_behind done rest i j table (size ∙ ap length split) earlier behind.0 next
    ∙ ap (λ l. place_of l table i.at + row_size (row table (length done)) (operation_at i)) (sym split)
