-- The two instructions that take an address: in lines, and at the places of fixes in code.
use Rattle.std.proofs.Common.{◌≡◌, ℕ, zero, suc, ◌+◌, ◌%◌, ◌<◌, ◌≤◌, Bool, true, ℤ}
use Rattle.std.proofs.Common.{List, [], ◌∷◌, ◌++◌, length, map, slice_index, arith, refl, subst, length-append}
use Rattle.std.proofs.Common.{append_assoc, nat_le, nat_lt}
use Rattle.std.specs.List.{list_all}
use Rattle.std.proofs.lemmas.Bool.{and_from, eq-eqb, le-leb, leb-true, lt-ltb, or_left}
use Rattle.num_core.specs.declared.fix.Fix.{Fix}
use Rattle.rv_isa.specs.declared.ins.Ins.{Ins}
use Rattle.rv_isa.specs.Instructions.{word_of}
use Rattle.rv_gen.specs.Placing.{code_from, fix_at, fixes_from, line_code, longest, size}
use Rattle.rv_lines.specs.declared.line.Line.{Line}
use Rattle.rv_lines.specs.declared.line.Line.TheVariants.{Label, Single, Addressed, Branch, Jump}
use Rattle.image_plan.specs.Conditions.{are_apart, is_apart, is_auipc}
use Rattle.image_plan.proofs.Lengths.{behind_both, front_both}
use Rattle.rv_words.proofs.LinkedCode.{line_size}

-- an `auipc`, and one that adds the lower bits or goes on with them
pub data IsPair : Ins → Ins → Type 0 where
  Adds : (rd imm rd' rs : ℕ) (low : ℤ) → IsPair (Ins.Auipc rd imm) (Ins.Addi rd' rs low)
  Jumps : (rd imm rd' rs : ℕ) (low : ℤ) → IsPair (Ins.Auipc rd imm) (Ins.Jalr rd' rs low)

-- ---- lines

abbrev pub TakesAddress : Line → Type 0
TakesAddress Label = Unit {0}
TakesAddress (Single ins) = Unit {0}
TakesAddress (Addressed upper lower kind item) = IsPair upper lower
TakesAddress (Branch condition left right label) = Unit {0}
TakesAddress (Jump label) = Unit {0}

abbrev pub AllTake : List Line → Type 0
AllTake [] = Unit {0}
AllTake (line ∷ lines) = TakesAddress line × AllTake lines

pub append_take : (xs ys : List Line) → AllTake xs → AllTake ys → AllTake (xs ++ ys)
append_take [] ys p q = q
append_take (x ∷ xs) ys p q = (p.0, append_take xs ys p.1 q)

-- ---- places in code

-- two instructions of such a form stand at a place
abbrev pub PairAt : (Ins → Ins → Type 0) → ℕ → List Ins → Type 0
PairAt P zero (first ∷ second ∷ code) = P first second
PairAt P (suc at) (ins ∷ code) = PairAt P at code
PairAt P at code = ⊥

abbrev pub PairsAt : (Ins → Ins → Type 0) → List Ins → List Fix → Type 0
PairsAt P code [] = Unit {0}
PairsAt P code (fix ∷ fixes) = PairAt P fix.at code × PairsAt P code fixes

pairs_append : (code : List Ins) (xs ys : List Fix) → PairsAt IsPair code xs → PairsAt IsPair code ys
    → PairsAt IsPair code (xs ++ ys)
pairs_append code [] ys p q = q
pairs_append code (x ∷ xs) ys p q = (p.0, pairs_append code xs ys p.1 q)

pair_behind : (done rest : List Ins) (first second : Ins) → IsPair first second
    → PairAt IsPair (length done) (done ++ first ∷ second ∷ rest)
pair_behind [] rest first second p = p
pair_behind (x ∷ done) rest first second p = pair_behind done rest first second p

own_pairs : (far places : List ℕ) (far_at at : ℕ) (line : Line) (done rest : List Ins) → length done ≡ at
    → TakesAddress line
    → PairsAt IsPair (done ++ (line_code far places far_at at line ++ rest)) (fix_at at line)
own_pairs far places far_at at Label done rest e takes = tt
own_pairs far places far_at at (Single ins) done rest e takes = tt
own_pairs far places far_at at (Addressed upper lower kind item) done rest e takes =
    (subst (λ n. PairAt IsPair n (done ++ upper ∷ lower ∷ rest)) e (pair_behind done rest upper lower takes), tt)
own_pairs far places far_at at (Branch condition left right label) done rest e takes = tt
own_pairs far places far_at at (Jump label) done rest e takes = tt

-- behind what is done, the fixes of lines stand at such pairs
pub pairs_of_lines : (far places : List ℕ) (far_at at : ℕ) (lines : List Line) (done : List Ins) → length done ≡ at
    → AllTake lines
    → PairsAt IsPair (done ++ code_from far places far_at at lines) (fixes_from far far_at at lines)
pairs_of_lines far places far_at at [] done e takes = tt
pairs_of_lines far places far_at at (line ∷ lines) done e takes =
    let here : List Ins = line_code far places far_at at line in
    let n : ℕ = size far far_at line in
    let rest : List Ins = code_from far places (far_at + longest line) (at + n) lines in
    let others : List Fix = fixes_from far (far_at + longest line) (at + n) lines in
    let long : length (done ++ here) ≡ at + n =
    omega (arith, length-append done here, e, line_size far places far_at at line) in
    let behind : PairsAt IsPair ((done ++ here) ++ rest) others =
    pairs_of_lines far places (far_at + longest line) (at + n) lines (done ++ here) long takes.1 in
    pairs_append (done ++ (here ++ rest)) (fix_at at line) others
    (own_pairs far places far_at at line done rest e takes.0)
    (subst (λ (code : List Ins). PairsAt IsPair code others) (append_assoc done here rest) behind)

-- ---- what tests say of them

pub pair_within : (P : Ins → Ins → Type 0) (at : ℕ) (code : List Ins) → PairAt P at code → at + 1 < length code
pair_within P zero [] p = absurd p
pair_within P zero (first ∷ []) p = absurd p
pair_within P zero (first ∷ second ∷ code) p = omega arith
pair_within P (suc at) [] p = absurd p
pair_within P (suc at) (ins ∷ code) p =
    let less : at + 1 < length code = pair_within P at code p in
    omega (arith, less)

pub pairs_within : (code : List Ins) (fixes : List Fix) → PairsAt IsPair code fixes
    → list_all (λ (fix : Fix). nat_lt (fix.at + 1) (length code)) fixes ≡ true
pairs_within code [] p = refl
pairs_within code (fix ∷ fixes) p =
    and_from (nat_lt (fix.at + 1) (length code)) (list_all (λ (f : Fix). nat_lt (f.at + 1) (length code)) fixes)
    (lt-ltb (fix.at + 1) (length code) (pair_within IsPair fix.at code p.0)) (pairs_within code fixes p.1)

auipc_word : (rd imm : ℕ) → word_of (Ins.Auipc rd imm) % 128 ≡ 23
auipc_word rd imm = omega arith

pair_begins : (first second : Ins) → IsPair first second → is_auipc (word_of first) ≡ true
pair_begins first second (Adds rd imm rd' rs low) = eq-eqb (word_of (Ins.Auipc rd imm) % 128) 23 (auipc_word rd imm)
pair_begins first second (Jumps rd imm rd' rs low) = eq-eqb (word_of (Ins.Auipc rd imm) % 128) 23 (auipc_word rd imm)

auipc_at : (at : ℕ) (code : List Ins) → PairAt IsPair at code → is_auipc (slice_index (map word_of code) at) ≡ true
auipc_at zero [] p = absurd p
auipc_at zero (first ∷ []) p = absurd p
auipc_at zero (first ∷ second ∷ code) p = pair_begins first second p
auipc_at (suc at) [] p = absurd p
auipc_at (suc at) (ins ∷ code) p = auipc_at at code p

pub pairs_begin : (code : List Ins) (fixes : List Fix) → PairsAt IsPair code fixes
    → list_all (λ (fix : Fix). is_auipc (slice_index (map word_of code) fix.at)) fixes ≡ true
pairs_begin code [] p = refl
pairs_begin code (fix ∷ fixes) p =
    and_from (is_auipc (slice_index (map word_of code) fix.at))
    (list_all (λ (f : Fix). is_auipc (slice_index (map word_of code) f.at)) fixes) (auipc_at fix.at code p.0)
    (pairs_begin code fixes p.1)

-- ---- fixes lie apart: each line's behind those of the lines in front of it

abbrev are_from : ℕ → List Fix → Bool
are_from at fixes = list_all (λ (fix : Fix). nat_le at fix.at) fixes

from_earlier : (a b : ℕ) (fixes : List Fix) → a ≤ b → are_from b fixes ≡ true → are_from a fixes ≡ true
from_earlier a b [] h all = refl
from_earlier a b (fix ∷ fixes) h all =
    let later : b ≤ fix.at = leb-true b fix.at (front_both (nat_le b fix.at) (are_from b fixes) all) in
    and_from (nat_le a fix.at) (are_from a fixes) (le-leb a fix.at (omega (arith, later, h)))
    (from_earlier a b fixes h (behind_both (nat_le b fix.at) (are_from b fixes) all))

lines_from : (far : List ℕ) (far_at at : ℕ) (lines : List Line) → are_from at (fixes_from far far_at at lines) ≡ true
lines_from far far_at at [] = refl
lines_from far far_at at (line ∷ lines) =
    own line (fixes_from far (far_at + longest line) (at + size far far_at line) lines)
    (from_earlier at (at + size far far_at line)
    (fixes_from far (far_at + longest line) (at + size far far_at line) lines) (omega arith)
    (lines_from far (far_at + longest line) (at + size far far_at line) lines))
  where
    own : (l : Line) (others : List Fix) → are_from at others ≡ true → are_from at (fix_at at l ++ others) ≡ true
    own Label others h = h
    own (Single ins) others h = h
    own (Addressed upper lower kind item) others h =
        and_from (nat_le at at) (are_from at others) (le-leb at at (omega arith)) h
    own (Branch condition left right label) others h = h
    own (Jump label) others h = h

apart_from : (fix : Fix) (fixes : List Fix) → are_from (fix.at + 2) fixes ≡ true
    → list_all (is_apart 2 fix) fixes ≡ true
apart_from fix [] h = refl
apart_from fix (other ∷ fixes) h =
    and_from (is_apart 2 fix other) (list_all (is_apart 2 fix) fixes)
    (or_left (nat_le (fix.at + 2) other.at) (nat_le (other.at + 2) fix.at)
    (front_both (nat_le (fix.at + 2) other.at) (are_from (fix.at + 2) fixes) h))
    (apart_from fix fixes (behind_both (nat_le (fix.at + 2) other.at) (are_from (fix.at + 2) fixes) h))

pub lines_apart : (far : List ℕ) (far_at at : ℕ) (lines : List Line)
    → are_apart 2 (fixes_from far far_at at lines) ≡ true
lines_apart far far_at at [] = refl
lines_apart far far_at at (Label ∷ lines) = lines_apart far (far_at + 0) (at + 0) lines
lines_apart far far_at at (Single ins ∷ lines) = lines_apart far (far_at + 1) (at + 1) lines
lines_apart far far_at at (Addressed upper lower kind item ∷ lines) =
    let fix : Fix = record { at = at; kind = kind; item = item } in
    let others : List Fix = fixes_from far (far_at + 2) (at + 2) lines in
    and_from (list_all (is_apart 2 fix) others) (are_apart 2 others)
    (apart_from fix others (lines_from far (far_at + 2) (at + 2) lines)) (lines_apart far (far_at + 2) (at + 2) lines)
lines_apart far far_at at (Branch condition left right label ∷ lines) =
    lines_apart far (far_at + 3) (at + size far far_at (Branch condition left right label)) lines
lines_apart far far_at at (Jump label ∷ lines) =
    lines_apart far (far_at + 2) (at + size far far_at (Jump label)) lines
