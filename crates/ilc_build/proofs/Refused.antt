-- The bytes of a bare body are refused by want of memory alone.
use Rattle.std.proofs.Common.{◌≡◌, ◌∙◌, inl, inr, ℕ, suc, ◌+◌, ◌<◌, ◌≤◌, ◌/◌, ◌%◌, min, Bool, true, false, cond, nat_eq}
use Rattle.std.proofs.Common.{List, [], ◌∷◌, length, Result, Ok, Err, refl, ap, sym, subst, arith}
use Rattle.std.proofs.lemmas.Option.{none-some}
use Rattle.il_code.specs.Listing.{listed, first_bad_target}
use Rattle.il_code.specs.Tiny.{tiny_body}
use Rattle.il_code.specs.declared.body.Body.{Body}
use Rattle.il_code.specs.declared.body.Instr.{Instr}
use Rattle.ilc_build.specs.Bare.{IsBareCode, ReadsBare}
use Rattle.ilc_build.specs.Depths.{AllBelow, IsLeast, IsBelow, join}
use Rattle.ilc_build.specs.Refusals.{CodeGives, FlowGives, InstructionsGive, NotBare, NotBareCode}
use Rattle.ilc_build.specs.declared.build.BuildFault.{BuildFault}
use Rattle.ilc_build.specs.declared.build.BuildFault.TheVariants.{BadHeader, BadOpcode, BadTarget, OpcodeOutside}
use Rattle.ilc_build.specs.declared.build.BuildFault.TheVariants.{Unverified, Memory}
use Rattle.ilc_build.specs.declared.depths.Known.{Known}
use Rattle.ilc_build.specs.declared.depths.Known.TheVariants.{Nothing, Depth, Clash}
use Rattle.ilc_build.proofs.Knowing.{Ways, IsNothing, IsAll, IsSame, ways}

-- a result is not both a value and an error, and has one value
not_both : {A : Type 0} (r : Result A ℕ) (x : A) (offset : ℕ) → r ≡ Ok x → r ≡ Err offset → ⊥
not_both r x offset ok err =
    let both : Ok x ≡ Err offset = sym ok ∙ err in
    cc

one_value : {A : Type 0} (r : Result A ℕ) (x y : A) → r ≡ Ok x → r ≡ Ok y → x ≡ y
one_value r x y ok ok' =
    let both : Ok x ≡ Ok y = sym ok ∙ ok' in
    cc

-- the size of a file with a tiny header
sized : (b c : Bool) (found code : List ℕ) (offset : ℕ) → cond b (cond c (Ok found) (Err offset)) (Err 0) ≡ Ok code
    → found ≡ code
sized true true found code offset h = one_value (Ok found) found code refl h
sized true false found code offset h = absurd (not_both (Err offset) code offset h refl)
sized false c found code offset h = absurd (not_both (Err 0) code 0 h refl)

pub small : (bytes code : List ℕ) → tiny_body bytes ≡ Ok code → length code < 64 → length bytes ≤ 64
small [] code h size = absurd (not_both (Err 0) code 0 h refl)
small (header ∷ found) code h size =
    let same = ap length (sized (nat_eq (header % 4) 2) (nat_eq (length found) (header / 4)) found code
    (min (length found) (header / 4) + 1) h) in
    omega arith

-- ---- two least tables are one

nothing_within : (k : Known) → join k Nothing ≡ Nothing → Nothing ≡ k
nothing_within Nothing h = refl
nothing_within (Depth d) h = cc
nothing_within Clash h = cc

below_both : (k l : Known) → IsBelow k l → IsBelow l k → k ≡ l
below_both k l h h' = by k l (ways k l h) h'
  where
    by : (k l : Known) → Ways k l → IsBelow l k → k ≡ l
    by _ l (IsNothing _) h = nothing_within l h
    by k _ (IsAll _) h = sym h
    by k _ (IsSame _) h = refl

same_tables : (table other : List Known) → length table ≡ length other → AllBelow table other → AllBelow other table
    → table ≡ other
same_tables [] [] size below above = refl
same_tables [] (l ∷ other) size below above = absurd (let e : 0 ≡ suc (length other) = size in omega (arith, e))
same_tables (k ∷ table) [] size below above = absurd (let e : suc (length table) ≡ 0 = size in omega (arith, e))
same_tables (k ∷ table) (l ∷ other) size below above =
    let sizes : suc (length table) ≡ suc (length other) = size in
    let heads : k ≡ l = below_both k l (below 0) (above 0) in
    let tails : table ≡ other = same_tables table other (omega (arith, sizes)) (λ n. below (suc n)) (λ n. above (suc n))
    in
    ap (λ k. k ∷ table) heads ∙ ap (λ t. l ∷ t) tails

pub one_table : (instrs : List Instr) (table other : List Known) → IsLeast instrs table → IsLeast instrs other
    → table ≡ other
one_table instrs table other is is' =
    same_tables table other (is.solution.size ∙ sym is'.solution.size) (is.least other is'.solution)
    (is'.least table is.solution)

-- ---- code of a bare body is not refused

flow_of : (code : List ℕ) (body : Body) (table : List Known) (fault : BuildFault) → IsBareCode code body table
    → InstructionsGive code fault → FlowGives body.code table fault
flow_of code body table fault bare g =
    let instrs : g.0 ≡ body.code = one_value (listed code) g.0 body.code g.1 bare.instructions in
    let least : IsLeast body.code g.3 = subst (λ l. IsLeast l g.3) instrs g.4 in
    let flow : FlowGives body.code g.3 fault = subst (λ l. FlowGives l g.3 fault) instrs g.5 in
    subst (λ t. FlowGives body.code t fault) (one_table body.code g.3 table least bare.least) flow

code_is_not_refused : (code : List ℕ) (body : Body) (table : List Known) (fault : BuildFault)
    → IsBareCode code body table → NotBareCode code fault → fault ≡ Memory
code_is_not_refused code body table (BadHeader offset) bare h = absurd h
code_is_not_refused code body table (BadOpcode offset) bare h =
    absurd (not_both (listed code) body.code offset bare.instructions h)
code_is_not_refused code body table (BadTarget offset) bare (inl h) =
    let instrs : h.0 ≡ body.code = one_value (listed code) h.0 body.code h.1 bare.instructions in
    absurd (none-some offset (sym bare.targets ∙ ap first_bad_target (sym instrs) ∙ h.2))
code_is_not_refused code body table (BadTarget offset) bare (inr g) =
    absurd (none-some offset (sym bare.past ∙ flow_of code body table (BadTarget offset) bare g))
code_is_not_refused code body table (OpcodeOutside offset) bare g =
    let f : FlowGives body.code table (OpcodeOutside offset) = flow_of code body table (OpcodeOutside offset) bare g in
    absurd (none-some offset (sym bare.operations ∙ f.1))
code_is_not_refused code body table (Unverified offset) bare g =
    let f : FlowGives body.code table (Unverified offset) = flow_of code body table (Unverified offset) bare g in
    absurd (none-some offset (sym bare.verified ∙ f.2))
code_is_not_refused code body table Memory bare h = refl

by_its_code : (bytes : List ℕ) (body : Body) (table : List Known) (fault : BuildFault) → ReadsBare bytes body table
    → CodeGives bytes fault → fault ≡ Memory
by_its_code bytes body table fault reads h =
    let same : h.0 ≡ reads.code = one_value (tiny_body bytes) h.0 reads.code h.1 reads.header in
    code_is_not_refused reads.code body table fault reads.bare (subst (λ c. NotBareCode c fault) same h.2)

pub is_not_refused : (bytes : List ℕ) (body : Body) (table : List Known) (fault : BuildFault)
    → ReadsBare bytes body table → NotBare bytes fault → fault ≡ Memory
is_not_refused bytes body table (BadHeader offset) reads h =
    absurd (not_both (tiny_body bytes) reads.code offset reads.header h)
is_not_refused bytes body table (BadOpcode offset) reads h = by_its_code bytes body table (BadOpcode offset) reads h
is_not_refused bytes body table (BadTarget offset) reads h = by_its_code bytes body table (BadTarget offset) reads h
is_not_refused bytes body table (OpcodeOutside offset) reads h =
    by_its_code bytes body table (OpcodeOutside offset) reads h
is_not_refused bytes body table (Unverified offset) reads h = by_its_code bytes body table (Unverified offset) reads h
is_not_refused bytes body table Memory reads h = refl
