use Rattle.std.proofs.Common.{◌≡◌, ◌∙◌, ◌⊎◌, ℕ, ◌≤◌, sym, subst, arith}
use Rattle.ilc_io.specs.Count.{next_count, HasRisen}
use Rattle.ilc.proofs.Answers.{cause_written, body_complete, run_complete, cause_listed, dis_complete, cause_imaged}
use Rattle.ilc.proofs.Answers.{asm_complete}
use Rattle.ilc.proofs.top.ilc.Goals as goal

-- a count that has risen has still risen later
later : (before now then : ℕ) → HasRisen before now → now ≤ then → HasRisen before then
later before now then risen kept = let h : next_count before ≤ now = risen in omega (arith, h, kept)

pub returns-clause-body : goal.returns-clause-body
returns-clause-body g c file out command zero =
    cause_written c.args.words.now _ _ _ _ c.perform-outcome.result file out c.perform-outcome.ensures command
    (sym c.status.ensures ∙ zero)

pub returns-clause-body_complete : goal.returns-clause-body_complete
returns-clause-body_complete g c file out command bare none =
    subst (λ n. (n ≡ 0) ⊎ (n ≡ 75)) (sym c.status.ensures)
    (body_complete c.args.words.now _ _ _ _ c.perform-outcome.result file out c.perform-outcome.ensures command bare
    none)

pub returns-clause-run_complete : goal.returns-clause-run_complete
returns-clause-run_complete g c elf limit count steps status command within has none calm =
    subst (λ n. (n ≡ status) ⊎ (n ≡ 75)) (sym c.status.ensures)
    (run_complete c.args.words.now _ _ _ _ c.perform-outcome.result elf limit count steps status
    c.perform-outcome.ensures command within has none
    (calm.0, calm.1, λ risen. calm.2 (later _ _ _ risen c.report.ensures.faults_kept)))

pub returns-clause-dis : goal.returns-clause-dis
returns-clause-dis g c file command zero =
    cause_listed c.args.words.now _ _ _ _ c.perform-outcome.result file c.perform-outcome.ensures command
    (sym c.status.ensures ∙ zero)

pub returns-clause-dis_complete : goal.returns-clause-dis_complete
returns-clause-dis_complete g c file command has none calm =
    subst (λ n. (n ≡ 0) ⊎ (n ≡ 75)) (sym c.status.ensures)
    (dis_complete c.args.words.now _ _ _ _ c.perform-outcome.result file c.perform-outcome.ensures command has none
    (calm.0, calm.1, λ risen. calm.2 (later _ _ _ risen c.report.ensures.faults_kept)))

pub returns-clause-asm : goal.returns-clause-asm
returns-clause-asm g c file out command zero =
    cause_imaged c.args.words.now _ _ _ _ c.perform-outcome.result file out c.perform-outcome.ensures command
    (sym c.status.ensures ∙ zero)

pub returns-clause-asm_complete : goal.returns-clause-asm_complete
returns-clause-asm_complete g c file out command has none =
    subst (λ n. (n ≡ 0) ⊎ (n ≡ 75)) (sym c.status.ensures)
    (asm_complete c.args.words.now _ _ _ _ c.perform-outcome.result file out c.perform-outcome.ensures command has none)
