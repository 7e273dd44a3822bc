-- Lines that can be obeyed, are well sorted and are few.
use Rattle.std.proofs.Common.{◌≡◌, ℕ, suc, ◌+◌, ◌≤◌, Bool, true, false, List, [], ◌∷◌, ◌++◌, length, map, refl, sym, ap, ◌∙◌, subst, Option, Some, arith}
use Rattle.std.specs.Prelude.{filter}
use Rattle.std.specs.List.{AllByRecursion}
use Rattle.std.specs.Set.{distinct_count}
use Rattle.std.proofs.lemmas.List.{length-append}
use Rattle.law_terms.specs.Interpretations.{function_eq}
use Rattle.law_terms.specs.Plain.{PlainTerm, terms}
use Rattle.law_terms.specs.Reached.{reached_terms, reached_functions, reached_types}
use Rattle.law_terms.specs.TermOrder.{term_eq}
use Rattle.law_terms.specs.Types.{type_eq}
use Rattle.law_terms.specs.TypeValues.{Enums, AreEnums}
use Rattle.law_texts.specs.Reading.{Expression}
use Rattle.law_scripts.specs.CommandLines.{IsSortedCommand, AreSorted}
use Rattle.law_scripts.specs.Script.{Command, State, Script, HasWholeLines, step, run}
use Rattle.law_texts.specs.Options.{◌>>=◌}
use Rattle.law_scripts.proofs.Append.{script_append}
use Rattle.law_scripts.proofs.Laid.{more_sorted, sorted_from}
use Rattle.law_lines.specs.Command.{commands}
use Rattle.law_lines.specs.Fit.{EachLine}
use Rattle.law_lines.specs.Line.{Line, Comment, DeclareDatatype, DeclareConst, DeclareFun, DefineFun, Assert, Push, Pop, spelled_lines}
use Rattle.law_lines.specs.Lines.{encode, encode_term, encode_terms, beginning, option_line}
use Rattle.law_lines.specs.NameTables.{Tables}
use Rattle.law_lines.specs.TableGrowth.{datatypes}
use Rattle.law_lines.proofs.Levels.{HoldsWhole, holds_then, terms_run}
use Rattle.law_lines.proofs.Single.{commands_append, run_then}
use Rattle.law_lines.proofs.Spelled.{lines_hold, one_holds}
use Rattle.law_lines.proofs.Whole.{begun, first_runs, first_is_line}
use Rattle.law_theorem.specs.Conditions.{AreConditions}
use Rattle.law_theorem.specs.Fits.{Stage, FitsAt, FitsNow}
use Rattle.law_theorem.proofs.FineTerms.{conditions_are_fine}
use Rattle.law_theorem.proofs.Origins.{OriginOf, lines_origins}
use Rattle.law_theorem.proofs.Reached.{parts_occur, terms_new}
use Rattle.law_theorem.proofs.Steps.{encode_fits, begun_fits_stage}
use Rattle.law_theorem.specs.SortedScripts.{IsLasting}
use Rattle.law_theorem.specs.WellWritten.{is_named_type, most_for_terms}
use Rattle.law_theorem.proofs.Backwards.{sorts_go_back}
use Rattle.law_theorem.proofs.NewNames.{own_names, names_differ, asserted, all_asserted, few_names}
use Rattle.law_theorem.proofs.NewTypes.{few_datatypes}
use Rattle.law_theorem.proofs.States.{fitting_states_are_sorted}

-- Lines that are read as their commands, which can be obeyed in this state, are well sorted there and are at most so many.
pub record AreWell (s : State) (ls : List Line) (most : ℕ) : Type 0 where
  pub holds : HoldsWhole ls
  pub after : State
  pub runs : run (commands ls) s ≡ Some after
  pub sorted : AreSorted (commands ls) s
  pub few : length (commands ls) ≤ most

-- lines that go on behind others
pub well_then : (s : State) (ls ms : List Line) (j k : ℕ) (a : AreWell s ls j) → AreWell a.after ms k → AreWell s (ls ++ ms) (j + k)
well_then s ls ms j k a b = record {
  holds = holds_then ls ms a.holds b.holds;
  after = b.after;
  runs = run_then ls ms s a.after b.after a.runs b.runs;
  sorted = subst (λ (cs : List Command). AreSorted cs s) (sym (commands_append ls ms)) (more_sorted (commands ls) (commands ms) s a.after a.sorted a.runs b.sorted);
  few = sums (length (commands (ls ++ ms))) (length (commands ls)) (length (commands ms)) (ap (λ (cs : List Command). length cs) (commands_append ls ms) ∙ length-append (commands ls) (commands ms)) a.few b.few;
}
  where
    sums : (all c d : ℕ) → all ≡ c + d → c ≤ j → d ≤ k → all ≤ j + k
    sums all c d h1 h2 h3 = omega arith

pub no_more : (s : State) (ls : List Line) (j k : ℕ) → j ≤ k → AreWell s ls j → AreWell s ls k
no_more s ls j k h a = record { holds = a.holds; after = a.after; runs = a.runs; sorted = a.sorted; few = at_most (length (commands ls)) a.few }
  where
    at_most : (n : ℕ) → n ≤ j → n ≤ k
    at_most n p = omega arith

pub none_well : (s : State) → AreWell s [] 0
none_well s = record { holds = lines_hold [] refl; after = s; runs = refl; sorted = tt; few = omega arith }

-- one command that is obeyed and well sorted
pub one_well : (s t : State) (ls : List Line) (c : Command) → commands ls ≡ c ∷ [] → HoldsWhole ls → IsSortedCommand s c → step c s ≡ Some t → AreWell s ls 1
one_well s t ls c e holds sorted h = record {
  holds = holds;
  after = t;
  runs = subst (λ (cs : List Command). run cs s ≡ Some t) (sym e) (ap (λ (o : Option State). o >>= run []) h);
  sorted = subst (λ (cs : List Command). AreSorted cs s) (sym e) (sorted, sorted_from (step c s) t h);
  few = subst (λ (cs : List Command). length cs ≤ 1) (sym e) (omega arith);
}

-- ---- the first line

-- What begins an encoder's first call leaves a state that its stage fits.
pub begins_well : (enums : Enums) (b : Bool) (x : Stage) (state : State) → FitsNow enums b x state → (a : AreWell state (beginning b) (length (beginning b))) × FitsAt enums x a.after
unfolding none_well
begins_well enums true x state f = (none_well state, f)
begins_well enums false x state f = (
  record {
    holds = one_holds _ [] _ [] first_is_line (lines_hold [] refl);
    after = begun;
    runs = subst (λ (s : State). run (commands (option_line ∷ [])) s ≡ Some begun) (sym f.1) first_runs;
    sorted = subst (AreSorted (commands (option_line ∷ []))) (sym f.1) (tt, tt);
    few = omega arith;
  },
  subst (λ (y : Stage). FitsAt enums y begun) (sym f.0) (begun_fits_stage enums),
)

-- ---- the lines of terms

lasting : (enums : Enums) (us : List PlainTerm) (s : Tables) (ls : List Line) → EachLine (OriginOf enums us s) ls → AllByRecursion IsLasting (commands ls)
lasting enums us s [] h = tt
lasting enums us s (Comment x ∷ ls) h = lasting enums us s ls h.1
lasting enums us s (DeclareDatatype n ps cs ∷ ls) h = (tt, lasting enums us s ls h.1)
lasting enums us s (DeclareConst n sort ∷ ls) h = (tt, lasting enums us s ls h.1)
lasting enums us s (DeclareFun n a sort ∷ ls) h = (tt, lasting enums us s ls h.1)
lasting enums us s (DefineFun n sort body ∷ ls) h = (tt, lasting enums us s ls h.1)
lasting enums us s (Assert e ∷ ls) h = (tt, lasting enums us s ls h.1)
lasting enums us s (Push ∷ ls) h = absurd h.0
lasting enums us s (Pop ∷ ls) h = absurd h.0

-- Each command declares a datatype, declares a name or asserts.
counted : (enums : Enums) (us : List PlainTerm) (s : Tables) (ls : List Line) → EachLine (OriginOf enums us s) ls → length (commands ls) ≡ datatypes ls + (length (own_names (commands ls)) + asserted (commands ls))
counted enums us s [] h = refl
counted enums us s (Comment x ∷ ls) h = counted enums us s ls h.1
counted enums us s (DeclareDatatype n ps cs ∷ ls) h = let k = counted enums us s ls h.1 in omega arith
counted enums us s (DeclareConst n sort ∷ ls) h = let k = counted enums us s ls h.1 in omega arith
counted enums us s (DeclareFun n a sort ∷ ls) h = let k = counted enums us s ls h.1 in omega arith
counted enums us s (DefineFun n sort body ∷ ls) h = let k = counted enums us s ls h.1 in omega arith
counted enums us s (Assert e ∷ ls) h = let k = counted enums us s ls h.1 in omega arith
counted enums us s (Push ∷ ls) h = absurd h.0
counted enums us s (Pop ∷ ls) h = absurd h.0

-- assertions declare no datatype
no_datatypes : (ls : List Line) (es : List Expression) → datatypes (ls ++ map Assert es) ≡ datatypes ls
no_datatypes [] [] = refl
no_datatypes [] (e ∷ es) = no_datatypes [] es
no_datatypes (Comment x ∷ ls) es = no_datatypes ls es
no_datatypes (DeclareDatatype n ps cs ∷ ls) es = ap suc (no_datatypes ls es)
no_datatypes (DeclareConst n sort ∷ ls) es = no_datatypes ls es
no_datatypes (DeclareFun n a sort ∷ ls) es = no_datatypes ls es
no_datatypes (DefineFun n sort body ∷ ls) es = no_datatypes ls es
no_datatypes (Assert e ∷ ls) es = no_datatypes ls es
no_datatypes (Push ∷ ls) es = no_datatypes ls es
no_datatypes (Pop ∷ ls) es = no_datatypes ls es

-- one text for each term
as_many_texts : (enums : Enums) (ts : List PlainTerm) (s : Tables) → length (encode_terms enums (terms ts) s).made ≡ length ts
as_many_texts enums [] s = refl
as_many_texts enums (t ∷ ts) s = ap suc (as_many_texts enums ts (encode_term enums t s).tables)

-- The commands of terms are few.
few_for_terms : (enums : Enums) (x : Stage) (state after : State) (ts : List PlainTerm) → FitsAt enums x state → AreConditions enums ts
    → run (commands (encode enums ts x.tables).lines) state ≡ Some after → after.last.assertions ≡ state.last.assertions ++ (encode enums ts x.tables).made → length (commands (encode enums ts x.tables).lines) ≤ most_for_terms ts
few_for_terms enums x state after ts f conditions runs asserts =
    let made = encode_terms enums (terms ts) x.tables in
    let u = (encode enums ts x.tables).tables in
    let ls = (encode enums ts x.tables).lines in
    let origins = lines_origins enums (reached_terms ts) ts (parts_occur enums ts ts (λ t h. h)) x.tables in
    let last = lasting enums (reached_terms ts) u ls origins in
    let differ = names_differ (commands ls) state after last f.declared.running runs in
    sums (length (commands ls)) (datatypes ls) (length (own_names (commands ls))) (asserted (commands ls)) (length ts) (datatypes made.lines) (length made.made) (length after.last.assertions) (length state.last.assertions)
    (distinct_count type_eq (filter is_named_type (reached_types ts))) (distinct_count function_eq (reached_functions ts)) (distinct_count term_eq (reached_terms ts))
    (counted enums (reached_terms ts) u ls origins) (no_datatypes made.lines made.made) (few_datatypes enums x state ts f conditions) (few_names enums ts u ls origins differ.1)
    (all_asserted (commands ls) state after last f.declared.running runs) (ap (λ (es : List Expression). length es) asserts ∙ length-append state.last.assertions made.made) (as_many_texts enums ts x.tables)
  where
    sums : (all d n a l e m end begin y f t : ℕ) → all ≡ d + (n + a) → d ≡ e → e ≤ y → n ≤ f + t → end ≡ begin + a → end ≡ begin + m → m ≡ l → all ≤ y + (f + (t + l))
    sums all d n a l e m end begin y f t h1 h2 h3 h4 h5 h6 h7 = omega arith

-- The lines of conditions are well where a stage fits a script.
pub terms_well : (enums : Enums) (text : List ℕ) (x : Stage) (state : State) (ts : List PlainTerm) → AreEnums enums → FitsAt enums x state → AreConditions enums ts → HasWholeLines text → Script text state
    → AreWell state (encode enums ts x.tables).lines (most_for_terms ts)
terms_well enums text x state ts good f conditions whole source =
    let ls = (encode enums ts x.tables).lines in
    let all : List PlainTerm = x.terms ++ ts in
    let r = terms_run enums ts x.tables state (conditions_are_fine enums ts conditions) f.declared in
    let origins = lines_origins enums (reached_terms all) ts (parts_occur enums all ts (terms_new x.terms ts)) x.tables in
    let later = script_append text (spelled_lines ls) state (commands ls) r.after whole source r.holds.0 r.runs in
    let sorted = fitting_states_are_sorted enums (text ++ spelled_lines ls) (record { tables = (encode enums ts x.tables).tables; terms = all }) r.after good (encode_fits enums x state ts f conditions r) later in
    record {
      holds = r.holds;
      after = r.after;
      runs = r.runs;
      sorted = sorts_go_back (commands ls) state r.after (lasting enums (reached_terms all) (encode enums ts x.tables).tables ls origins) f.declared.running r.runs sorted;
      few = few_for_terms enums x state r.after ts f conditions r.runs r.asserts;
    }
