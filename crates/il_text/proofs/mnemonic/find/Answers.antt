use Rattle.std.proofs.Common.{◌∙◌, ap}
use Rattle.std.specs.Option.{option_map}
use Rattle.il_text.specs.Mnemonics.{row_of}
use Rattle.il_text.proofs.Rows.{found_row}
use Rattle.il_text.proofs.mnemonic.find.Goals as goal

pub returns : goal.returns
returns c = ap (option_map row_of) c.first.ensures ∙ found_row c.args.rows.now c.args.number
