-- What the script of a job has, by what its encoder has.
use Rattle.std.proofs.Common.{◌≡◌, ℕ, List, [], ◌∷◌, ◌++◌, append-nil, length, map, Option, Some, None, Ok, Err, Result, refl, sym, ap, ◌∙◌}
use Rattle.std.specs.Io.KnownBytes.{append_known}
use Rattle.std.specs.Prelude.{IsErrAnd, IsOkUnless, is_some, option_map}
use Rattle.std.proofs.lemmas.List.{length-map}
use Rattle.law_terms.specs.Plain.{PlainTerm, PlainType}
use Rattle.law_terms.specs.TypeValues.{Enums}
use Rattle.law_terms.specs.Meanings.{meanings}
use Rattle.law_terms.specs.Nodes.{Meaning, TermMeaning}
use Rattle.smt_nodes.specs.Interned.{nodes_of, StandFor}
use Rattle.smt_nodes.specs.View.{place_of, places_of}
use Rattle.smt_nodes.specs.declared.id.NodeId.{NodeId}
use Rattle.smt_nodes.proofs.Finding.{as_many_found}
use Rattle.smt_nodes.specs.declared.interner.Interner.{Interner}
use Rattle.law_lines.specs.NameTables.{Tables}
use Rattle.law_lines.specs.Text.{names, text}
use Rattle.smt_script.specs.Count.{count_bytes, count_contents}
use Rattle.smt_script.specs.declared.count.CountSink.{CountSink}
use Rattle.law_lines.specs.Line.{spelled_lines}
use Rattle.law_lines.specs.Lines.{EncodeCall, fresh, lines_of_call}
use Rattle.law_jobs.specs.Steps.{AssertStep}
use Rattle.smt_runs.specs.JobTexts.{names_of_job, text_of_job}
use Rattle.smt_spelling.specs.NodeTexts.{HasName}
use Rattle.smt_encode.specs.declared.error.EncodeError.{EncodeError}
use Rattle.smt_encode.specs.declared.error.EncodeError.TheVariants.{Memory}
use Rattle.smt_spelling.specs.declared.node_names.NodeNames.{NodeNames}
use Rattle.smt_cli.specs.Jobs.{job_generated, job_of_terms}
use Rattle.smt_cli.specs.Generation.{summary_by, summary_lines, summary_of, summary_text}
use Rattle.smt_cli.specs.declared.summary.Summary.{Summary}

-- of two answers to the question for one name, both have a name or neither has
pub found_alike : (i : Interner) (names : NodeNames) (m : Meaning) (a b : Option (List ℕ)) → HasName i names m a → HasName i names m b → is_some a ≡ is_some b
found_alike i names m None None h g = refl
found_alike i names m (Some x) (Some y) h g = refl
found_alike i names m None (Some y) h g = let none = h g.0 g.1 g.2 in absurd (cc)
found_alike i names m (Some x) None h g = let none = g h.0 h.1 h.2 in absurd (cc)

pub mapped_alike : {A B : Type 0} (f : A → B) (o : Option A) → is_some (option_map f o) ≡ is_some o
mapped_alike f None = refl
mapped_alike f (Some a) = refl

-- an error that is handed on is want of memory, where no other may come
pub only_memory : {T U : Type 0} (outcome : Result T EncodeError) (result : Result U EncodeError) (error : EncodeError) → outcome ≡ Err error → IsErrAnd result (λ x. x ≡ error) → IsOkUnless outcome Memory → IsOkUnless result Memory
only_memory outcome (Ok y) error was e h = tt
only_memory (Ok z) (Err x) error was e h = absurd (cc)
only_memory (Err z) (Err x) error was e h = cc

-- as many terms as numbers that stand for them
pub as_many_terms : (i : Interner) (ids : List NodeId) (ts : List PlainTerm) → StandFor i ids ts → length ids ≡ length ts
as_many_terms i ids ts h = sym (length-map ids place_of) ∙ as_many_found (meanings (nodes_of i)) (places_of ids) (map TermMeaning ts) h ∙ length-map ts TermMeaning

-- what an encoder wrote onto a sink that held nothing
pub all_counted : (sink sink' : CountSink) (script : List ℕ) → count_bytes sink ≡ [] → count_contents sink' ≡ append_known (count_contents sink) script → count_bytes sink' ≡ script
all_counted sink sink' script none put =
    let whole : count_contents sink' ≡ append_known (Some []) script = put ∙ ap (λ (held : List ℕ). append_known (Some held) script) none in
    cc

-- the text and the names of a job that asserts these terms
one_text : (enums : Enums) (ts : List PlainTerm) → text enums ts ≡ text_of_job enums (AssertStep ts ∷ [])
one_text enums ts = ap spelled_lines (append-nil (lines_of_call enums (EncodeCall ts) fresh)) ∙ sym (append-nil (spelled_lines (lines_of_call enums (EncodeCall ts) fresh)))

one_names : (enums : Enums) (ts : List PlainTerm) → names enums ts ≡ names_of_job enums (AssertStep ts ∷ [])
one_names enums ts = refl

-- what was found of a script is its summary
pub summed_up : (variables : List (List ℕ × PlainType)) (ts : List PlainTerm) (summary : Summary) (script : List ℕ) (s : Tables) (terms : ℕ) → summary ≡ summary_by script s variables terms → script ≡ text [] ts → s ≡ names [] ts → terms ≡ length ts
    → summary ≡ summary_of (job_of_terms variables ts)
unfolding summary_of
summed_up variables ts summary script s terms e same named many =
    let written : script ≡ text_of_job [] (AssertStep ts ∷ []) = same ∙ one_text [] ts in
    let known : s ≡ names_of_job [] (AssertStep ts ∷ []) = named ∙ one_names [] ts in
    let all : terms ≡ length (ts ++ []) = many ∙ ap length (sym (append-nil ts)) in
    e ∙ (λ i. summary_by (written i) (known i) variables (all i))

-- the text of the summary of a generated job
pub says_summary : (bytes : List ℕ) (summary : Summary) (seed count : ℕ) → bytes ≡ summary_lines summary → summary ≡ summary_of (job_generated seed count) → bytes ≡ summary_text seed count
unfolding summary_text
says_summary bytes summary seed count e same = e ∙ ap summary_lines same
