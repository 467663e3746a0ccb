use Rattle.std.proofs.Common.{◌++◌, arith}
use Rattle.ty_load.specs.Texts.{listed_texts, type_text, type_texts}
use Rattle.ty_texts.proofs.Joined.{one_listed}
use Rattle.ty_texts.proofs.types.+text.Goals as goal

pub push_types-loop-i-preserved : goal.push_types-loop-i-preserved
push_types-loop-i-preserved t c =
    one_listed (type_text c.args.names.now) c.args.types.now c.loop-i.i c.index-types-i.result
    (c.args.text.now ++ listed_texts (type_texts c.args.names.now c.args.types.now)) c.loop-i.text
    c.push_comma.new.text c.push_type.new.text (omega arith) c.index-types-i.is c.loop-i.invariant
    c.in_ok-push_comma.ensures c.in_ok-push_type.ensures
