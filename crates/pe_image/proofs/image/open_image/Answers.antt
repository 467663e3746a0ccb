use Rattle.std.proofs.Common.{◌≡◌, ◌∙◌, ℕ, ◌+◌, List, Some, None, ap}
use Rattle.std.specs.Prelude.{codes}
use Rattle.pe_image.specs.Conditions.{number_at}
use Rattle.pe_image.specs.Streams.{stream}
use Rattle.pe_image.proofs.Opening.{Holds, stops_headers, stops_sections, stops_parts, stops_cli, last_conditions}
use Rattle.pe_image.proofs.Opening.{parts_are}
use Rattle.pe_image.proofs.image.open_image.Goals as goal

pub returns-in-Err-clause-refused : goal.returns-in-Err-clause-refused
returns-in-Err-clause-refused c = stops_headers c.args.bytes.now c.in-Err.fault c.in-Err.ensures.answers

pub returns-in-Err-check_headers-clause-refused : goal.returns-in-Err-check_headers-clause-refused
returns-in-Err-check_headers-clause-refused c =
    let file : List ℕ = c.args.bytes.now in
    let n : ℕ = c.sections-sections.result.count in
    let p : ℕ = c.sections-sections.result.place in
    let h : Holds file n p =
    record {
      count = c.sections-sections.ensures.count;
      place = c.sections-sections.ensures.place;
      headers =
          c.in-Ok.ensures.answers;
    } in
    stops_sections file n p c.in-Err-check_headers.fault h c.in-Err-check_headers.ensures.answers

pub returns-in-Err-check_parts-clause-refused : goal.returns-in-Err-check_parts-clause-refused
returns-in-Err-check_parts-clause-refused c =
    let file : List ℕ = c.args.bytes.now in
    let n : ℕ = c.sections-sections.result.count in
    let p : ℕ = c.sections-sections.result.place in
    let h : Holds file n p =
    record {
      count = c.sections-sections.ensures.count;
      place = c.sections-sections.ensures.place;
      headers =
          c.in-Ok.ensures.answers;
    } in
    stops_parts file n p c.in-Err-check_parts.fault h c.in-Ok-check_headers.ensures.answers
    c.in-Err-check_parts.ensures.answers

pub returns-in-Err-locate-clause-refused : goal.returns-in-Err-locate-clause-refused
returns-in-Err-locate-clause-refused c =
    let file : List ℕ = c.args.bytes.now in
    let n : ℕ = c.sections-sections.result.count in
    let p : ℕ = c.sections-sections.result.place in
    let h : Holds file n p =
    record {
      count = c.sections-sections.ensures.count;
      place = c.sections-sections.ensures.place;
      headers =
          c.in-Ok.ensures.answers;
    } in
    stops_cli file n p c.in-Err-locate.fault h c.in-Ok-check_headers.ensures.answers c.in-Ok-check_parts.ensures.answers
    c.in-Err-locate.ensures.answers

pub returns-in-Err-check_metadata-clause-refused : goal.returns-in-Err-check_metadata-clause-refused
returns-in-Err-check_metadata-clause-refused c =
    let file : List ℕ = c.args.bytes.now in
    let n : ℕ = c.sections-sections.result.count in
    let p : ℕ = c.sections-sections.result.place in
    let h : Holds file n p =
    record {
      count = c.sections-sections.ensures.count;
      place = c.sections-sections.ensures.place;
      headers =
          c.in-Ok.ensures.answers;
    } in
    last_conditions file n p c.in-Ok-locate.located.metadata c.metadata-root.result.now
    (Some c.in-Err-check_metadata.fault) h c.in-Ok-check_headers.ensures.answers c.in-Ok-check_parts.ensures.answers
    c.in-Ok-locate.ensures.answers
    c.in-Ok-locate.ensures.metadata c.metadata-root.ensures.bytes c.in-Err-check_metadata.ensures.answers

pub returns-clause-holds : goal.returns-clause-holds
returns-clause-holds c =
    let file : List ℕ = c.args.bytes.now in
    let n : ℕ = c.sections-sections.result.count in
    let p : ℕ = c.sections-sections.result.place in
    let h : Holds file n p =
    record {
      count = c.sections-sections.ensures.count;
      place = c.sections-sections.ensures.place;
      headers =
          c.in-Ok.ensures.answers;
    } in
    last_conditions file n p c.in-Ok-locate.located.metadata c.metadata-root.result.now None h
    c.in-Ok-check_headers.ensures.answers c.in-Ok-check_parts.ensures.answers c.in-Ok-locate.ensures.answers
    c.in-Ok-locate.ensures.metadata c.metadata-root.ensures.bytes c.in-Ok-check_metadata.ensures.answers

pub returns-clause-opened : goal.returns-clause-opened
returns-clause-opened c =
    let file : List ℕ = c.args.bytes.now in
    let n : ℕ = c.sections-sections.result.count in
    let p : ℕ = c.sections-sections.result.place in
    let h : Holds file n p =
    record {
      count = c.sections-sections.ensures.count;
      place = c.sections-sections.ensures.place;
      headers =
          c.in-Ok.ensures.answers;
    } in
    let root : List ℕ = c.metadata-root.result.now in
    let bytes = c.metadata-root.ensures.bytes in
    parts_are file c.named.result.now c.named-2.result.now c.named-3.result.now c.named-4.result.now
    c.named-5.result.now c.word_at.result n p h
    (c.named.ensures ∙ (ap (λ name. stream name root) c.as_slice.ensures ∙ ap (stream (codes "#~")) bytes))
    (c.named-2.ensures ∙ (ap (λ name. stream name root) c.as_slice-2.ensures ∙ ap (stream (codes "#Strings")) bytes))
    (c.named-3.ensures ∙ (ap (λ name. stream name root) c.as_slice-3.ensures ∙ ap (stream (codes "#US")) bytes))
    (c.named-4.ensures ∙ (ap (λ name. stream name root) c.as_slice-4.ensures ∙ ap (stream (codes "#GUID")) bytes))
    (c.named-5.ensures ∙ (ap (λ name. stream name root) c.as_slice-5.ensures ∙ ap (stream (codes "#Blob")) bytes))
    (c.word_at.ensures ∙ ap (λ at. number_at file 4 (at + 20)) c.in-Ok-locate.ensures.cli)
