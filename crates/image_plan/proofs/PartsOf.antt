-- The parts of the file from where the segments begin and end.
use Rattle.std.proofs.Common.{◌≡◌, ◌∙◌, ◌+◌, ◌-◌, ◌++◌, ◌∷◌, [], ℕ, List, ap, arith, append_assoc}
use Rattle.ty_terms.specs.declared.nodes.Part.{Part}
use Rattle.ty_terms.specs.declared.nodes.PartKind.TheVariants.{Header, Runtime}
use Rattle.elf_file.specs.Elf.{base, headers_size, up_to_page}
use Rattle.image_plan.specs.Places.{code_at, front_at, tables_at, text_end}
use Rattle.image_plan.specs.Planned.{code_parts, pad, part, parts_of, table_parts, text_size}
use Rattle.image_plan.specs.declared.pieces.Pieces.{Pieces}

-- code, the end of the first segment and the begin of the second stand so far behind the first byte of the file
abbrev pub parts_with : Pieces → ℕ → ℕ → ℕ → List Part
parts_with pieces code text second =
    part Header [] 0 headers_size
    ∷ part Runtime [] headers_size (code - headers_size)
    ∷ (code_parts code pieces.code ++ (pad text (second - text) ++ table_parts second pieces.tables))

pub parts_are : (pieces : Pieces) (at text second : ℕ) → at ≡ code_at → text ≡ text_end pieces
    → second ≡ tables_at pieces → parts_with pieces (at - base) (text - base) (second - base) ≡ parts_of pieces
unfolding parts_of
parts_are pieces at text second here end behind =
    let page : ℕ = up_to_page (text_size pieces) in
    let far : base + page - base ≡ page = omega arith in
    ap (λ n. parts_with pieces (n - base) (text - base) (second - base)) here
    ∙ ap (λ n. parts_with pieces (code_at - base) (n - base) (second - base)) end
    ∙ ap (λ n. parts_with pieces (code_at - base) (text_end pieces - base) (n - base)) behind
    ∙ ap (λ n. parts_with pieces (code_at - base) (text_end pieces - base) n) far
    ∙ ap (λ n. part Header [] 0 headers_size ∷ part Runtime [] headers_size n
    ∷ (code_parts (code_at - base) pieces.code
    ++ (pad (text_size pieces) (page - text_size pieces) ++ table_parts page pieces.tables))) sizes
  where
    sizes : code_at - base - headers_size ≡ code_at - front_at
    sizes = omega arith

-- parts that were added one after another
pub added : (header runtime : Part) (code pads tables : List Part)
    → ((([] ++ header ∷ []) ++ runtime ∷ []) ++ code) ++ pads ++ tables ≡ header ∷ runtime ∷ (code ++ (pads ++ tables))
added header runtime code pads tables =
    ap (λ rest. header ∷ runtime ∷ rest) (append_assoc code pads tables)
