-- The conditions on a file, part by part.
use Rattle.std.proofs.Common.{◌≡◌, ◌∙◌, ◌+◌, ℕ, List, ◌++◌, Option, Some, None, ap, subst}
use Rattle.std.specs.Prelude.{codes}
use Rattle.pe_image.specs.Conditions.{Condition, first_fault, number_at}
use Rattle.pe_image.specs.Sections.{headers_fit, parts_fit, sections_at}
use Rattle.pe_image.specs.Streams.{metadata_conditions, stream}
use Rattle.pe_image.specs.Pe.{conditions, header_conditions, section_count, sections_place, sections, cli_conditions}
use Rattle.pe_image.specs.Pe.{metadata, metadata_place, cli_place, Parts, parts_of}
use Rattle.pe_image.specs.declared.fault.PeFault.{PeFault}
use Rattle.pe_image.proofs.Conditions.{passes, stops}

-- the headers hold, and these are the number of the sections and the place of their headers
pub record Holds (file : List ℕ) (n p : ℕ) : Type 0 where
  pub count : n ≡ section_count file
  pub place : p ≡ sections_place file
  pub headers : first_fault (header_conditions file) ≡ None

sections-of : (file : List ℕ) (n p : ℕ) (x : Option PeFault) → Holds file n p → first_fault (headers_fit file n p) ≡ x
    → first_fault (headers_fit file (section_count file) (sections_place file)) ≡ x
sections-of file n p x h e =
    subst (λ m. first_fault (headers_fit file m (sections_place file)) ≡ x) h.count
    (subst (λ q. first_fault (headers_fit file n q) ≡ x) h.place e)

parts-of : (file : List ℕ) (n p : ℕ) (x : Option PeFault) → Holds file n p
    → first_fault (parts_fit file (sections_at file n p)) ≡ x → first_fault (parts_fit file (sections file)) ≡ x
parts-of file n p x h e =
    subst (λ m. first_fault (parts_fit file (sections_at file m (sections_place file))) ≡ x) h.count
    (subst (λ q. first_fault (parts_fit file (sections_at file n q)) ≡ x) h.place e)

-- the conditions behind the parts of the sections, behind their headers, and behind the headers of the file
abbrev behind_parts : List ℕ → List Condition
behind_parts file = cli_conditions file ++ metadata_conditions (metadata_place file) (metadata file)

abbrev behind_sections : List ℕ → List Condition
behind_sections file = parts_fit file (sections file) ++ behind_parts file

abbrev behind_headers : List ℕ → List Condition
behind_headers file = headers_fit file (section_count file) (sections_place file) ++ behind_sections file

pub stops_headers : (file : List ℕ) (fault : PeFault) → first_fault (header_conditions file) ≡ Some fault
    → first_fault (conditions file) ≡ Some fault
unfolding conditions
stops_headers file fault h = stops (header_conditions file) (behind_headers file) fault h

past_headers : (file : List ℕ) → first_fault (header_conditions file) ≡ None
    → first_fault (conditions file) ≡ first_fault (behind_headers file)
unfolding conditions
past_headers file h = passes (header_conditions file) (behind_headers file) h

pub stops_sections : (file : List ℕ) (n p : ℕ) (fault : PeFault) → Holds file n p
    → first_fault (headers_fit file n p) ≡ Some fault → first_fault (conditions file) ≡ Some fault
stops_sections file n p fault h e =
    past_headers file h.headers
    ∙ stops (headers_fit file (section_count file) (sections_place file)) (behind_sections file) fault
    (sections-of file n p (Some fault) h e)

past_sections : (file : List ℕ) (n p : ℕ) → Holds file n p → first_fault (headers_fit file n p) ≡ None
    → first_fault (conditions file) ≡ first_fault (behind_sections file)
past_sections file n p h e =
    past_headers file h.headers
    ∙ passes (headers_fit file (section_count file) (sections_place file)) (behind_sections file)
    (sections-of file n p None h e)

pub stops_parts : (file : List ℕ) (n p : ℕ) (fault : PeFault) → Holds file n p
    → first_fault (headers_fit file n p) ≡ None → first_fault (parts_fit file (sections_at file n p)) ≡ Some fault
    → first_fault (conditions file) ≡ Some fault
stops_parts file n p fault h e e' =
    past_sections file n p h e
    ∙ stops (parts_fit file (sections file)) (behind_parts file) fault (parts-of file n p (Some fault) h e')

past_parts : (file : List ℕ) (n p : ℕ) → Holds file n p → first_fault (headers_fit file n p) ≡ None
    → first_fault (parts_fit file (sections_at file n p)) ≡ None
    → first_fault (conditions file) ≡ first_fault (behind_parts file)
past_parts file n p h e e' = past_sections file n p h e
    ∙ passes (parts_fit file (sections file)) (behind_parts file) (parts-of file n p None h e')

pub stops_cli : (file : List ℕ) (n p : ℕ) (fault : PeFault) → Holds file n p → first_fault (headers_fit file n p) ≡ None
    → first_fault (parts_fit file (sections_at file n p)) ≡ None → first_fault (cli_conditions file) ≡ Some fault
    → first_fault (conditions file) ≡ Some fault
stops_cli file n p fault h e e' e'' =
    past_parts file n p h e e'
    ∙ stops (cli_conditions file) (metadata_conditions (metadata_place file) (metadata file)) fault e''

pub last_conditions : (file : List ℕ) (n p at : ℕ) (root : List ℕ) (x : Option PeFault) → Holds file n p
    → first_fault (headers_fit file n p) ≡ None → first_fault (parts_fit file (sections_at file n p)) ≡ None
    → first_fault (cli_conditions file) ≡ None → at ≡ metadata_place file → root ≡ metadata file
    → first_fault (metadata_conditions at root) ≡ x → first_fault (conditions file) ≡ x
last_conditions file n p at root x h e e' e'' at-is root-is m =
    past_parts file n p h e e'
    ∙ (passes (cli_conditions file) (metadata_conditions (metadata_place file) (metadata file)) e''
    ∙ subst (λ a. first_fault (metadata_conditions a (metadata file)) ≡ x) at-is
    (subst (λ r. first_fault (metadata_conditions at r) ≡ x) root-is m))

-- what the file holds, by its fields
pub parts_are : (file t s u g b : List ℕ) (entry n p : ℕ) → Holds file n p → t ≡ stream (codes "#~") (metadata file)
    → s ≡ stream (codes "#Strings") (metadata file) → u ≡ stream (codes "#US") (metadata file)
    → g ≡ stream (codes "#GUID") (metadata file) → b ≡ stream (codes "#Blob") (metadata file)
    → entry ≡ number_at file 4 (cli_place file + 20)
    → record {
      tables = t;
      strings = s;
      user = u;
      guid = g;
      blob = b;
      entry = entry;
      file = file;
      sections =
          sections_at file n p;
    } ≡ parts_of file
unfolding parts_of
parts_are file t s u g b entry n p h et es eu eg eb ee =
    let e : sections_at file n p ≡ sections file = ap (λ m. sections_at file m p) h.count
    ∙ ap (sections_at file (section_count file)) h.place in
    cc
