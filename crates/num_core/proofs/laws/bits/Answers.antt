use Rattle.num_core.proofs.IntegerLaws.{unsigned-int_wrap}
use Rattle.num_core.proofs.WrapLaws.{rest-fits, cast_unsigned-low, cast_signed-low, int_wrap-cast_signed}
use Rattle.std.proofs.Common.{lit≤, sym}
use Rattle.std.specs.Int.{w32, w64}
use Rattle.num_core.proofs.BitLaws.{and_of_word, or_of_word, xor_of_word, not_of_word}
use Rattle.num_core.proofs.laws.bits.Goals as goal

pub returns-clause-bits_of_wrapped : goal.returns-clause-bits_of_wrapped
returns-clause-bits_of_wrapped c = λ w z. unsigned-int_wrap w z

pub returns-clause-bits_of_value : goal.returns-clause-bits_of_value
returns-clause-bits_of_value c = λ w a f. rest-fits w a f

pub returns-clause-low_bits_of_word : goal.returns-clause-low_bits_of_word
returns-clause-low_bits_of_word c = λ a f. cast_unsigned-low w32 w64 a (lit≤ tt) f

pub returns-clause-truncated_word : goal.returns-clause-truncated_word
returns-clause-truncated_word c = λ a f. cast_signed-low w32 w64 a (lit≤ tt) f

pub returns-clause-word_of_register : goal.returns-clause-word_of_register
returns-clause-word_of_register c = λ n h. sym (int_wrap-cast_signed w32 w64 n (lit≤ tt) h)

pub returns-clause-and_of_word : goal.returns-clause-and_of_word
returns-clause-and_of_word c = λ a b f g. and_of_word a b f g

pub returns-clause-or_of_word : goal.returns-clause-or_of_word
returns-clause-or_of_word c = λ a b f g. or_of_word a b f g

pub returns-clause-xor_of_word : goal.returns-clause-xor_of_word
returns-clause-xor_of_word c = λ a b f g. xor_of_word a b f g

pub returns-clause-not_of_word : goal.returns-clause-not_of_word
returns-clause-not_of_word c = λ a f. not_of_word a f
