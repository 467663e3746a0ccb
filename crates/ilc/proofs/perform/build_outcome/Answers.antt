use Rattle.std.proofs.Common.{sym, subst}
use Rattle.ilc.specs.Reading.{IsRefusedBy}
use Rattle.ilc.proofs.NotRead.{refused_header, refused_opcode, refused_target, refused_operation, refused_unverified}
use Rattle.ilc.proofs.perform.build_outcome.Goals as goal

pub returns-in-BadHeader : goal.returns-in-BadHeader
returns-in-BadHeader c bytes =
    subst (λ fault. IsRefusedBy bytes c.args.file.now fault c.refused.result) (sym c.in-BadHeader.is)
    (refused_header c.args.file.now bytes _ c.in-BadHeader.at _ c.bytes.ensures.bytes c.refused.ensures)

pub returns-in-BadOpcode : goal.returns-in-BadOpcode
returns-in-BadOpcode c bytes =
    subst (λ fault. IsRefusedBy bytes c.args.file.now fault c.refused-in-BadOpcode.result) (sym c.in-BadOpcode.is)
    (refused_opcode c.args.file.now bytes _ c.in-BadOpcode.at _ c.body_method.ensures c.refused-in-BadOpcode.ensures)

pub returns-in-BadTarget : goal.returns-in-BadTarget
returns-in-BadTarget c bytes =
    subst (λ fault. IsRefusedBy bytes c.args.file.now fault c.refused-in-BadTarget.result) (sym c.in-BadTarget.is)
    (refused_target c.args.file.now bytes _ c.in-BadTarget.at _ c.body_method-in-BadTarget.ensures
    c.refused-in-BadTarget.ensures)

pub returns-in-OpcodeOutside : goal.returns-in-OpcodeOutside
returns-in-OpcodeOutside c bytes =
    subst (λ fault. IsRefusedBy bytes c.args.file.now fault c.refused-in-OpcodeOutside.result)
    (sym c.in-OpcodeOutside.is)
    (refused_operation c.args.file.now bytes _ c.in-OpcodeOutside.at _ c.body_method-in-OpcodeOutside.ensures
    c.refused-in-OpcodeOutside.ensures)

pub returns-in-Unverified : goal.returns-in-Unverified
returns-in-Unverified c bytes =
    subst (λ fault. IsRefusedBy bytes c.args.file.now fault c.refused-in-Unverified.result) (sym c.in-Unverified.is)
    (refused_unverified c.args.file.now bytes _ c.in-Unverified.at _ c.body_method-in-Unverified.ensures
    c.refused-in-Unverified.ensures)
