-- How the segments of the program headers are gathered, one header after the other.
use Rattle.std.proofs.Common.{◌≡◌, ◌∙◌, ap, ℕ, suc, ◌+◌, ◌-◌, ◌<◌, ◌≤◌, List, arith}
use Rattle.std.specs.Prelude.{Result, Ok, Err}
use Rattle.rv_step.specs.declared.segment.Segment.{Segment}
use Rattle.elf_file.specs.declared.fault.ElfFault.{ElfFault}
use Rattle.elf_file.specs.declared.fault.ElfFault.TheVariants.{BadElf, Memory}
use Rattle.elf_file.specs.Elf.{and_then, Gives, with_header, with_headers}

-- the next header is the first of those that are left
next : (file : List ℕ) (count done place : ℕ) (segments : List Segment) → done < count
    → with_headers file (count - done) place segments
    ≡ and_then (with_headers file (count - (done + 1)) (place + 56)) (with_header file place segments)
next file count done place segments more =
    let e : count - done ≡ suc (count - (done + 1)) = omega arith in
    ap (λ n. with_headers file n place segments) e

pub goes_on : (file : List ℕ) (count done place : ℕ) (segments more : List Segment) (all : Result (List Segment) ℕ)
    → done < count → with_header file place segments ≡ Ok more → all ≡ with_headers file (count - done) place segments
    → all ≡ with_headers file (count - (done + 1)) (place + 56) more
goes_on file count done place segments more all left step so_far =
    so_far ∙ next file count done place segments left
    ∙ ap (and_then (with_headers file (count - (done + 1)) (place + 56))) step

-- a fault at one header is that of them all
pub ends : (fault : ElfFault) (file : List ℕ) (count done place : ℕ) (segments : List Segment)
    (all : Result (List Segment) ℕ) → done < count
    → Gives {X = List Segment} (Err fault) (with_header file place segments)
    → all ≡ with_headers file (count - done) place segments → Gives {X = List Segment} (Err fault) all
ends (BadElf at) file count done place segments all left step so_far =
    so_far ∙ next file count done place segments left
    ∙ ap (and_then (with_headers file (count - (done + 1)) (place + 56))) step
ends Memory file count done place segments all left step so_far = tt

-- where none is left, all are gathered
pub gathered : (file : List ℕ) (count done place : ℕ) (segments : List Segment) (all : Result (List Segment) ℕ)
    → count ≤ done → all ≡ with_headers file (count - done) place segments → all ≡ Ok segments
gathered file count done place segments all over so_far =
    let e : count - done ≡ 0 = omega arith in
    so_far ∙ ap (λ n. with_headers file n place segments) e
