-- Code that is listed is tiled by its instructions; code that isn't is tiled up to an offset where none stands.
use Rattle.std.proofs.Common.{◌≡◌, ◌≢◌, ◌∙◌, ℕ, zero, suc, ◌+◌, ◌<◌, ◌≤◌, Bool, true, false, cond, nat_eq, eqb-true}
use Rattle.std.proofs.Common.{eq-eqb, ne_eqb, List, [], ◌∷◌, ◌++◌, length, map, Option, Some, None, Result, Ok, Err}
use Rattle.std.proofs.Common.{refl, ap, sym, subst, arith}
use Rattle.std.specs.List.{AllByRecursion}
use Rattle.std.proofs.lemmas.List.Elements.{All-from_recursion, recursion_from_All}
use Rattle.il_code.specs.declared.body.Instr.{Instr}
use Rattle.il_code.specs.Instructions.{instruction_at}
use Rattle.il_code.specs.Listing.{AreTiles, IsBadOpcode, in_front, listed, listed_at, listed_from}
use Rattle.il_code.proofs.Listed.{at_end}
use Rattle.il_code.proofs.Standing.{StandsIn, stands_in}

-- instructions of the code, one behind another from an offset on, the last of them before the end
abbrev pub TilesFrom : List ℕ → ℕ → ℕ → List Instr → Type 0
TilesFrom code at end [] = at ≡ end
TilesFrom code at end (i ∷ instrs) = (instruction_at code at ≡ Some i) × TilesFrom code i.next end instrs

pub tiles_few : (code : List ℕ) (at end : ℕ) (instrs : List Instr) → TilesFrom code at end instrs
    → at + length instrs ≤ end
tiles_few code at end [] t = let e : at ≡ end = t in omega (arith, e)
tiles_few code at end (i ∷ instrs) t =
    let s : StandsIn (length code) at i = stands_in code at i t.0 in
    omega (arith, s.later, tiles_few code i.next end instrs t.1)

-- ---- the instructions from an offset on

record Stops (code : List ℕ) (at offset : ℕ) : Type 0 where
  before : List Instr
  tiles : TilesFrom code at offset before
  inside : offset < length code
  none : instruction_at code offset ≡ None

abbrev Reads : List ℕ → ℕ → Result (List Instr) ℕ → Type 0
Reads code at (Ok instrs) = TilesFrom code at (length code) instrs
Reads code at (Err offset) = Stops code at offset

reads_front : (code : List ℕ) (at : ℕ) (i : Instr) (rest : Result (List Instr) ℕ) → instruction_at code at ≡ Some i
    → Reads code i.next rest → Reads code at (in_front i rest)
reads_front code at i (Ok instrs) there more = (there, more)
reads_front code at i (Err offset) there more =
    record { before = i ∷ more.before; tiles = (there, more.tiles); inside = more.inside; none = more.none }

reads_at : (most : ℕ) (code : List ℕ) (at : ℕ) (o : Option Instr) → instruction_at code at ≡ o → at < length code
    → length code ≤ at + suc most
    → ((next : ℕ) → next ≤ length code → length code ≤ next + most → Reads code next (listed_from most code next))
    → Reads code at (listed_at (listed_from most code) at o)
reads_at most code at None there inside enough more =
    record { before = []; tiles = refl; inside = inside; none = there }
reads_at most code at (Some i) there inside enough more =
    let s : StandsIn (length code) at i = stands_in code at i there in
    reads_front code at i (listed_from most code i.next) there
    (more i.next s.within (omega (arith, s.later, enough)))

reads_or : (code : List ℕ) (at : ℕ) (rest : Result (List Instr) ℕ) (b : Bool) → nat_eq at (length code) ≡ b
    → (at ≢ length code → Reads code at rest) → Reads code at (cond b (Ok []) rest)
reads_or code at rest true test more = eqb-true at (length code) test
reads_or code at rest false test more =
    more (λ same. let other : nat_eq at (length code) ≡ true = eq-eqb at (length code) same in cc)

reads_from : (most : ℕ) (code : List ℕ) (at : ℕ) → at ≤ length code → length code ≤ at + most
    → Reads code at (listed_from most code at)
reads_from zero code at low high =
    reads_or code at (Err at) (nat_eq at (length code)) refl (λ apart. absurd (apart (omega (arith, low, high))))
reads_from (suc most) code at low high =
    reads_or code at (listed_at (listed_from most code) at (instruction_at code at)) (nat_eq at (length code)) refl
    (λ apart. reads_at most code at (instruction_at code at) refl (omega (arith, low, apart)) high
    (λ next low' high'. reads_from most code next low' high'))

reads : (code : List ℕ) → Reads code 0 (listed code)
reads code = reads_from (length code) code 0 (omega arith) (omega arith)

pub tiles : (code : List ℕ) (instrs : List Instr) → listed code ≡ Ok instrs → TilesFrom code 0 (length code) instrs
tiles code instrs e = subst (Reads code 0) e (reads code)

-- ---- the same by offsets

joined : (code : List ℕ) (at end : ℕ) (instrs : List Instr) → TilesFrom code at end instrs
    → map (λ i. i.at) instrs ++ end ∷ [] ≡ at ∷ map (λ i. i.next) instrs
joined code at end [] t = ap (λ n. n ∷ []) (sym t)
joined code at end (i ∷ instrs) t =
    ap (λ ns. i.at ∷ ns) (joined code i.next end instrs t.1)
    ∙ ap (λ n. n ∷ i.next ∷ map (λ i. i.next) instrs) (stands_in code at i t.0).here

abbrev AreRead : List ℕ → List Instr → Type 0
AreRead code instrs = AllByRecursion (λ i. instruction_at code i.at ≡ Some i) instrs

all_read : (code : List ℕ) (at end : ℕ) (instrs : List Instr) → TilesFrom code at end instrs → AreRead code instrs
all_read code at end [] t = tt
all_read code at end (i ∷ instrs) t =
    (ap (instruction_at code) (stands_in code at i t.0).here ∙ t.0, all_read code i.next end instrs t.1)

are_tiles : (code : List ℕ) (end : ℕ) (instrs : List Instr) → TilesFrom code 0 end instrs → AreTiles code end instrs
are_tiles code end instrs t = record {
  joined = joined code 0 end instrs t;
  read = All-from_recursion (λ i. instruction_at code i.at ≡ Some i) instrs (all_read code 0 end instrs t);
}

tiles_from : (code : List ℕ) (at end : ℕ) (instrs : List Instr)
    → map (λ i. i.at) instrs ++ end ∷ [] ≡ at ∷ map (λ i. i.next) instrs → AreRead code instrs
    → TilesFrom code at end instrs
tiles_from code at end [] e read = let same : end ≡ at = cc in sym same
tiles_from code at end (i ∷ instrs) e read =
    let here : i.at ≡ at = cc in
    let rest : map (λ i. i.at) instrs ++ end ∷ [] ≡ i.next ∷ map (λ i. i.next) instrs = cc in
    (ap (instruction_at code) (sym here) ∙ read.0, tiles_from code i.next end instrs rest read.1)

tiles_of : (code : List ℕ) (end : ℕ) (instrs : List Instr) → AreTiles code end instrs → TilesFrom code 0 end instrs
tiles_of code end instrs a =
    tiles_from code 0 end instrs a.joined
    (recursion_from_All (λ i. instruction_at code i.at ≡ Some i) instrs a.read)

-- ---- and back: what tiles the code is what is listed

step : (most : ℕ) (code : List ℕ) (at : ℕ) (o : Option Instr) → at < length code → instruction_at code at ≡ o
    → listed_from (suc most) code at ≡ listed_at (listed_from most code) at o
step most code at o inside there =
    ap (λ b. cond b (Ok []) (listed_at (listed_from most code) at (instruction_at code at)))
    (ne_eqb at (length code) (λ same. absurd (omega (arith, inside, same))))
    ∙ ap (listed_at (listed_from most code) at) there

relisted : (instrs : List Instr) (most : ℕ) (code : List ℕ) (at : ℕ) → TilesFrom code at (length code) instrs
    → length instrs ≤ most → listed_from most code at ≡ Ok instrs
relisted [] most code at t few = at_end code most at t
relisted (i ∷ instrs) zero code at t few = absurd (omega (arith, few))
relisted (i ∷ instrs) (suc most) code at t few =
    let s : StandsIn (length code) at i = stands_in code at i t.0 in
    step most code at (Some i) (omega (arith, s.later, s.within)) t.0
    ∙ ap (in_front i) (relisted instrs most code i.next t.1 (omega (arith, few)))

restopped : (before : List Instr) (most : ℕ) (code : List ℕ) (at offset : ℕ) → TilesFrom code at offset before
    → offset < length code → instruction_at code offset ≡ None → length before < most
    → listed_from most code at ≡ Err offset
restopped before zero code at offset t inside none few = absurd (omega (arith, few))
restopped [] (suc most) code at offset t inside none few =
    let here : at ≡ offset = t in
    step most code at None (omega (arith, inside, here)) (ap (instruction_at code) here ∙ none) ∙ ap Err here
restopped (i ∷ before) (suc most) code at offset t inside none few =
    let s : StandsIn (length code) at i = stands_in code at i t.0 in
    step most code at (Some i) (omega (arith, s.later, s.within)) t.0
    ∙ ap (in_front i) (restopped before most code i.next offset t.1 inside none (omega (arith, few)))

-- ---- both ways

pub tiled : (code : List ℕ) (instrs : List Instr) → listed code ≡ Ok instrs → AreTiles code (length code) instrs
tiled code instrs e = are_tiles code (length code) instrs (tiles code instrs e)

pub bad_opcode : (code : List ℕ) (offset : ℕ) → listed code ≡ Err offset → IsBadOpcode code offset
bad_opcode code offset e =
    let s : Stops code 0 offset = subst (Reads code 0) e (reads code) in
    record { before = s.before; tiles = are_tiles code offset s.before s.tiles; inside = s.inside; none = s.none }

pub listed_tiled : (code : List ℕ) (instrs : List Instr) → AreTiles code (length code) instrs → listed code ≡ Ok instrs
listed_tiled code instrs a =
    let t : TilesFrom code 0 (length code) instrs = tiles_of code (length code) instrs a in
    relisted instrs (length code) code 0 t (omega (arith, tiles_few code 0 (length code) instrs t))

pub listed_bad : (code : List ℕ) (offset : ℕ) → IsBadOpcode code offset → listed code ≡ Err offset
listed_bad code offset bad =
    let t : TilesFrom code 0 offset bad.before = tiles_of code offset bad.before bad.tiles in
    restopped bad.before (length code) code 0 offset t bad.inside bad.none
    (omega (arith, bad.inside, tiles_few code 0 offset bad.before t))
