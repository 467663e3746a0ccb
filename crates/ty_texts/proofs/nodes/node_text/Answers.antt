use Rattle.std.proofs.Common.{rules, ◌≡◌, Err, IsUtf8, sym, subst}
use Rattle.num_core.specs.declared.text.TextFault.TheVariants.{NotUtf8}
use Rattle.ty_load.specs.Texts.{node_text}
use Rattle.ty_texts.proofs.Ascii.{ascii_node, is_utf8}
use Rattle.ty_texts.proofs.nodes.node_text.Goals as goal

pub unreachable-requires : goal.unreachable-requires
unreachable-requires c =
    let same : c.as_slice.result.now ≡ node_text c.args.names.now c.args.node.now = first_of (cc, search rules) in
    let refused : c.new.result ≡ Err (NotUtf8 c.in-Err-NotUtf8.field-0-0) = cc in
    c.new.ensures.not_utf8 c.in-Err-NotUtf8.field-0-0 refused
    (subst IsUtf8 (sym same)
    (is_utf8 (node_text c.args.names.now c.args.node.now) (ascii_node c.args.names.now c.args.node.now)))
