use Rattle.std.proofs.Common.{◌≡◌, ◌∙◌, ℕ, List, Some, None, sym, ap}
use Rattle.std.specs.Option.{option_map}
use Rattle.pe_image.proofs.Streams.{streams_stop, has_them, lacks_them}
use Rattle.pe_image.proofs.stream.check_metadata.Goals as goal

pub returns-in-Err-check_streams-clause-answers : goal.returns-in-Err-check_streams-clause-answers
returns-in-Err-check_streams-clause-answers c =
    streams_stop c.args.at c.args.root.now c.in-Ok.found.1 c.in-Ok.found.0 c.in-Err-check_streams.fault
    c.in-Ok.ensures.count c.in-Ok.ensures.place c.in-Ok.ensures.answers c.in-Ok-check_headers.ensures.answers
    c.in-Err-check_streams.ensures.answers

pub returns-in-Some-clause-answers : goal.returns-in-Some-clause-answers
returns-in-Some-clause-answers c =
    has_them c.args.at c.args.root.now c.in-Ok.found.1 c.in-Ok.found.0 c.as_slice.result.now c.in-Some.field-0.now
    c.as_slice.ensures c.in-Ok.ensures.count c.in-Ok.ensures.place c.in-Ok.ensures.answers
    c.in-Ok-check_headers.ensures.answers c.in-Ok-check_streams.ensures.answers c.in-Some.ensures

pub returns-in-None-clause-answers : goal.returns-in-None-clause-answers
returns-in-None-clause-answers c =
    lacks_them c.args.at c.args.root.now c.in-Ok.found.1 c.in-Ok.found.0 c.as_slice.result.now c.as_slice.ensures
    c.in-Ok.ensures.count c.in-Ok.ensures.place c.in-Ok.ensures.answers c.in-Ok-check_headers.ensures.answers
    c.in-Ok-check_streams.ensures.answers c.in-None.ensures
