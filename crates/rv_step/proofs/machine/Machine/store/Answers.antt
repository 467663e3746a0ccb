use Rattle.std.proofs.Common.{◌∙◌, ap, take}
use Rattle.rv_step.proofs.Memory.{take_bytes}
use Rattle.rv_step.proofs.Effects.{store_done, store_refused}
use Rattle.rv_step.proofs.machine.Machine.store.Goals as goal

pub returns-then-write : goal.returns-then-write
returns-then-write c =
    store_done c.args.self.now c.write.new.self c.go_on.new.self c.args.count c.args.address c.args.value _
    c.if-write.ensures.written (ap (λ bytes. take c.args.count bytes) c.write_u64.ensures ∙ take_bytes c.args.count
    8 0 c.args.value c.requires) c.if-write.ensures.pc c.if-write.ensures.registers c.go_on.ensures

pub returns-else-write : goal.returns-else-write
returns-else-write c =
    store_refused c.args.self.now c.write.new.self c.args.count c.args.address c.args.value _ c.if-write.ensures.refused
    (ap (λ bytes. take c.args.count bytes) c.write_u64.ensures
    ∙ take_bytes c.args.count 8 0 c.args.value c.requires) c.if-write.ensures.same
