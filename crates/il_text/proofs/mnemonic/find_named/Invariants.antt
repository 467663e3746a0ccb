use Rattle.std.proofs.Common.{◌≡◌, drop, map}
use Rattle.il_text.specs.Mnemonics.{row_of}
use Rattle.il_text.specs.Reading.{row_named_in}
use Rattle.il_text.proofs.mnemonic.find_named.Given as goal

-- the name is found among the rows that are left
abbrev pub invariant-loop-row : goal.invariant-loop-row
invariant-loop-row l =
    row_named_in (map row_of l.rows) l.word ≡ row_named_in (map row_of (drop l.row-index l.rows)) l.word
