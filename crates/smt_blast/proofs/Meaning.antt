-- What the script of blasted terms says of the terms.
use Rattle.std.proofs.Common.{◌∙◌, ℕ, List, [], ◌∷◌, ap, sym}
use Rattle.std.proofs.lemmas.Bool.{false≢true}
use Rattle.std.specs.List.{AllByRecursion}
use Rattle.std.specs.Prelude.{◌↔◌, IsTrue}
use Rattle.law_terms.specs.Interpretations.{GiveSame, IsInterpretation, restrict}
use Rattle.law_terms.specs.Meaning.{AreTrue}
use Rattle.law_terms.specs.Plain.{PlainOp, OptionGetOp, ExtOp, UufOp, PlainTerm, Application, VariableTerm, PlainType}
use Rattle.law_terms.specs.Reached.{reached_terms, subterms}
use Rattle.law_terms.specs.Tables.{Interpretation}
use Rattle.law_terms.specs.TypeValues.{Enums}
use Rattle.law_terms.proofs.Agreement.{agreeing, restricted, same_values, true_before, true_too}
use Rattle.law_terms.proofs.Defaults.{all-join}
use Rattle.law_scripts.specs.Sorts.{Entries, entries}
use Rattle.law_scripts.specs.Value.{ScriptInterpretation, IsScriptInterpretation, AgreeFor, IsModel}
use Rattle.law_lines.specs.Lines.{EncodeCall}
use Rattle.law_lines.specs.NameTables.{Tables}
use Rattle.law_lines.specs.Naming.{IsOneToOne}
use Rattle.law_theorem.specs.CarriedInterpretations.{back_interpretation, carry_constant, carry_interpretation, variable_name, DeclaresReached, GiveNameSame, GiveOpSame, GivesReachedNames, IsTermNamed}
use Rattle.law_theorem.specs.Carry.{carry}
use Rattle.law_theorem.specs.Conditions.{AreConditions}
use Rattle.law_theorem.specs.Fits.{Fits, new_stages, stages_after_calls}
use Rattle.law_theorem.specs.Headline.{Headline}
use Rattle.law_theorem.specs.Open.{LeavesOpen}
use Rattle.law_theorem.proofs.FitKept.{conditions_are_their_scripts, fitting_texts_represent, stated_calls_fit}
use Rattle.law_theorem.proofs.Interpretations as carrying
use Rattle.law_theorem.proofs.Keys.{term_keyed}
use Rattle.law_theorem.proofs.Models.{stands}
use Rattle.law_theorem.proofs.Open.{names_agree}
use Rattle.law_theorem.proofs.SelectionsGiven.{interpretations_give_reached}
use Rattle.law_theorem.proofs.SelectionsOpen.{selectors_are_open}
use Rattle.law_blasting.specs.Blasted.{bits}
use Rattle.law_blasting.specs.NewTerms.{IsBooleanNode, IsBooleanOver}
use Rattle.law_blasting.specs.Numbering.{variables_of}
use Rattle.law_blasting.specs.Refusals.{is_connective}
use Rattle.law_blasting.specs.Theorem.{names_of, new_roots, AreFaithful}
use Rattle.smt_blast.specs.Meaning.{MeansBlasted, blasted_names, blasted_text, carried_bits, interpretation_of_bits}

-- the subterms of Boolean terms over names
booleans_reached : (names : List (List ℕ)) (us : List PlainTerm) → AllByRecursion (IsBooleanOver names) us → AllByRecursion (IsBooleanNode names) (reached_terms us)
booleans_reached names [] h = tt
booleans_reached names (u ∷ us) h = all-join (IsBooleanNode names) (subterms u) (reached_terms us) h.0 (booleans_reached names us h.1)

-- Two interpretations of Boolean terms that give what a third gives are carried to the same.
module _ (s : Tables) (here : Entries) (names : List (List ℕ)) (unique : IsOneToOne s) (B K L : Interpretation) (J : ScriptInterpretation) where
  op_same : (o : PlainOp) (t : PlainType) → IsTrue (is_connective o) → GiveOpSame s (carry_interpretation [] s L) J o t
  op_same (UufOp f) t h = absurd (false≢true h)
  op_same OptionGetOp t h = absurd (false≢true h)
  op_same (ExtOp o) t h = absurd (false≢true h)
  op_same o t h = tt

  name_same : (u : PlainTerm) → IsTermNamed [] s here u → IsBooleanNode names u → GiveSame B K u → GiveSame B L u → GiveNameSame s (carry_interpretation [] s K) J u → GiveNameSame s (carry_interpretation [] s L) J u
  name_same (VariableTerm id t) n b k l j =
      let keyed = term_keyed s (VariableTerm id t) (variable_name s id t) unique.terms n.0 in
      ap (carry_constant [] s L) keyed ∙ ap (carry [] s t) (sym l ∙ k) ∙ sym (ap (carry_constant [] s K) keyed) ∙ j
  name_same (Application o ts t) n b k l j = op_same o t b.0
  name_same u n b k l j = tt

  names_same : (us : List PlainTerm) → AllByRecursion (IsTermNamed [] s here) us → AllByRecursion (IsBooleanNode names) us → AllByRecursion (GiveSame B K) us → AllByRecursion (GiveSame B L) us → AllByRecursion (GiveNameSame s (carry_interpretation [] s K) J) us
      → AllByRecursion (GiveNameSame s (carry_interpretation [] s L) J) us
  names_same [] n b k l j = tt
  names_same (u ∷ us) n b k l j = (name_same u n.0 b.0 k.0 l.0 j.0, names_same us n.1 b.1 k.1 l.1 j.1)

module _ (enums : Enums) (ts : List PlainTerm) (f : AreFaithful enums ts) where
  -- the new terms
  abbrev us : List PlainTerm
  us = new_roots ts

  abbrev s : Tables
  s = blasted_names ts

  conditions : AreConditions [] us
  conditions = record { are_typed = f.typed; are_formed = f.formed; have_no_fault = f.without_fault }

  abbrev fits : Fits [] (blasted_text ts) (stages_after_calls [] (EncodeCall us ∷ []) new_stages)
  fits = stated_calls_fit [] (EncodeCall us ∷ []) tt (conditions, tt)

  abbrev headline : Headline [] s us (blasted_text ts)
  headline = record {
    state = fits.state;
    script = fits.script;
    represents = fitting_texts_represent [] (blasted_text ts) (stages_after_calls [] (EncodeCall us ∷ []) new_stages) fits;
    interpreted = (conditions_are_their_scripts [] us tt conditions).interpreted;
  }

  named : DeclaresReached [] s (entries headline.state) us
  named = stands [] (blasted_text ts) (stages_after_calls [] (EncodeCall us ∷ []) new_stages).now fits.state tt fits.now fits.script.script

  open_names : LeavesOpen s us headline.state
  open_names = selectors_are_open [] (blasted_text ts) (stages_after_calls [] (EncodeCall us ∷ []) new_stages).now fits.state fits.now fits.script.script

  given : (J : ScriptInterpretation) → IsScriptInterpretation J headline.state → GivesReachedNames s (entries headline.state) us J
  given = interpretations_give_reached [] (blasted_text ts) (stages_after_calls [] (EncodeCall us ∷ []) new_stages).now fits.state tt fits.now fits.script.script

  module _ (I : Interpretation) (g : IsInterpretation enums ts I) where
    abbrev all_bits : Interpretation
    all_bits = bits (variables_of ts) I

    abbrev kept_bits : Interpretation
    kept_bits = restrict all_bits us

    bits_given : IsInterpretation [] us kept_bits
    bits_given = agreeing [] all_bits kept_bits us (restricted us all_bits) (f.forth I g).0

    bits_true : AreTrue I ts ↔ IsModel (carried_bits ts I) headline.state
    bits_true =
        let alike = same_values all_bits kept_bits us (restricted us all_bits) in
        let models = headline.represents.true_in kept_bits bits_given in
        let together = f.together I g in
        (λ h. models.0 (true_too all_bits kept_bits us alike (together.0 h)), λ m. together.1 (true_before all_bits kept_bits us alike (models.1 m)))

  module _ (J : ScriptInterpretation) (g : IsScriptInterpretation J headline.state) where
    abbrev taken : Interpretation
    taken = back_interpretation [] s J

    bits_back : AgreeFor (carried_bits ts (interpretation_of_bits ts J)) J headline.state
    bits_back =
        let I = interpretation_of_bits ts J in
        let b = bits (variables_of ts) I in
        let passed = f.back taken (headline.represents.back J g) in
        names_agree s us headline.state (carried_bits ts I) J open_names
        (names_same s (entries headline.state) (names_of ts) named.one_to_one b taken (restrict b us) J (reached_terms us) named.named (booleans_reached (names_of ts) us f.terms) passed.1 (restricted us b)
        (carrying.agrees [] s (entries headline.state) us named J (given J g)))

    back_true : IsModel J headline.state ↔ AreTrue (interpretation_of_bits ts J) ts
    back_true =
        let models = headline.represents.models J g in
        let together = f.together_back taken (headline.represents.back J g) in
        (λ m. together.0 (models.0 m), λ h. models.1 (together.1 h))

  pub means_blasted : MeansBlasted enums ts
  means_blasted = record {
    faithful = f;
    means = headline;
    forth = λ I g. (headline.represents.carried (restrict (bits (variables_of ts) I) us) (bits_given I g), bits_true I g);
    back = λ J g. ((f.back (back_interpretation [] s J) (headline.represents.back J g)).0, bits_back J g, back_true J g);
  }
