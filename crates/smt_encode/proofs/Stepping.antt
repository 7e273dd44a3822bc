-- The stated lines of what nodes stand for can be obeyed, where it is typed and has no fault.
use Rattle.std.proofs.Common.{◌≡◌, ◌<◌, ℕ, zero, suc, IsTrue, List, [], ◌∷◌, ◌++◌, length, refl, subst, arith, Option, Some, None}
use Rattle.std.specs.Prelude.{IfSome, option_map, slice_get}
use Rattle.std.specs.List.{AllByRecursion}
use Rattle.law_terms.specs.Formed.{IsFormedType}
use Rattle.law_terms.specs.Faults.{type_fault}
use Rattle.law_terms.specs.Meanings.{all_found, found, meanings}
use Rattle.law_terms.specs.Nodes.{FunctionLabel, FunctionMeaning, Meaning, PlainLabel, PlainNode, TermMeaning, TypeMeaning}
use Rattle.law_terms.specs.Parts.{parts_in}
use Rattle.law_terms.proofs.Places.{map_back, some_same, then_back}
use Rattle.law_terms.proofs.Soundness.{none-first, none-second}
use Rattle.law_lines.specs.Fit.{AreObeyable, IsObeyable}
use Rattle.law_lines.specs.Line.{Line}
use Rattle.law_lines.specs.Lines.{Enums}
use Rattle.law_lines.specs.NameTables.{Tables}
use Rattle.law_lines.proofs.OfTerms.{terms_step}
use Rattle.law_lines.proofs.OfTypes.{functions_step, types_step}
use Rattle.law_lines.proofs.Single.{comment_first, no_step, steps_then}
use Rattle.law_theorem.proofs.FineTerms.{fine, fine_type}
use Rattle.smt_nodes.specs.Interned.{meaning_in, nodes_of}
use Rattle.smt_nodes.specs.View.{place_of}
use Rattle.smt_nodes.specs.declared.id.NodeId.{NodeId}
use Rattle.smt_nodes.specs.declared.interner.Interner.{Interner}
use Rattle.smt_nodes.proofs.Formed.{nodes_formed, IsFormedMeaning}
use Rattle.smt_nodes.proofs.Labels.{parts_are}
use Rattle.smt_term.proofs.FormedTerms.{both_formed}
use Rattle.smt_spelling.specs.NodeEntries.{heading}
use Rattle.smt_spelling.specs.NodeLines.{encode_meaning, encode_meanings, meaning_fault, meanings_fault}
use Rattle.smt_spelling.proofs.Named.{meant_within}
use Rattle.smt_encode.specs.Complete.{AreTypedMeanings}
use Rattle.smt_spelling.specs.Whole.{is_typed}

-- ---- what nodes stand for is formed

-- a type, a function or a term that is formed, a function with both of its types
abbrev pub IsFormedWhole : Meaning → Type 0
IsFormedWhole (FunctionMeaning f) = IsFormedType f.argument × IsFormedType f.output
IsFormedWhole m = IsFormedMeaning m

node_there : (ns : List PlainNode) (i : ℕ) → i < length ns → (n : PlainNode) × (slice_get ns i ≡ Some n)
node_there [] i h = absurd (omega (arith, h))
node_there (n ∷ ns) zero h = (n, refl)
node_there (n ∷ ns) (suc i) h = node_there ns i (omega (arith, h))

found_formed : (i : Interner) (places : List ℕ) (ps : List Meaning) → all_found (meanings (nodes_of i)) places ≡ Some ps → AllByRecursion IsFormedMeaning ps
found_formed i [] ps h = subst (AllByRecursion IsFormedMeaning) (some_same [] ps h) tt
found_formed i (place ∷ places) ps h =
    let (m, e, d) = then_back (λ m. option_map (λ more. m ∷ more) (all_found (meanings (nodes_of i)) places)) (found (meanings (nodes_of i)) place) ps h in
    let (more, f, same) = map_back (λ more. m ∷ more) (all_found (meanings (nodes_of i)) places) ps d in
    subst (AllByRecursion IsFormedMeaning) same (nodes_formed i.table.nodes.items i.graph place m e, found_formed i places more f)

pub formed : (i : Interner) (id : NodeId) (m : Meaning) → meaning_in i id ≡ Some m → IsFormedWhole m
formed i id (TypeMeaning t) h = nodes_formed i.table.nodes.items i.graph (place_of id) (TypeMeaning t) h
formed i id (TermMeaning t) h = nodes_formed i.table.nodes.items i.graph (place_of id) (TermMeaning t) h
formed i id (FunctionMeaning f) h =
    let (n, there) = node_there (nodes_of i) (place_of id) (meant_within i id (FunctionMeaning f) h) in
    let P : Option Meaning → Type 0 = λ o. IfSome o (λ m. all_found (meanings (nodes_of i)) n.parts ≡ Some (parts_in m)) in
    let parts = found_formed i n.parts (parts_in (FunctionMeaning f)) (subst P h (parts_are (nodes_of i) i.graph (place_of id) n there)) in
    (parts.0, parts.1.0)

-- the same of several
pub all_formed : (i : Interner) (places : List ℕ) (ps : List Meaning) → all_found (meanings (nodes_of i)) places ≡ Some ps → AllByRecursion IsFormedWhole ps
all_formed i [] ps h = subst (AllByRecursion IsFormedWhole) (some_same [] ps h) tt
all_formed i (place ∷ places) ps h =
    let (m, e, d) = then_back (λ m. option_map (λ more. m ∷ more) (all_found (meanings (nodes_of i)) places)) (found (meanings (nodes_of i)) place) ps h in
    let (more, f, same) = map_back (λ more. m ∷ more) (all_found (meanings (nodes_of i)) places) ps d in
    subst (AllByRecursion IsFormedWhole) same (formed i (record { place = place }) m e, all_formed i places more f)

-- ---- their lines can be obeyed

module _ (enums : Enums) where
  pub meaning_steps : (m : Meaning) (s : Tables) → IsTrue (is_typed m) → IsFormedWhole m → meaning_fault enums m ≡ None → IsObeyable enums s (encode_meaning enums m s)
  meaning_steps (TypeMeaning t) s typed well none = types_step enums t s (fine_type enums t none well)
  meaning_steps (FunctionMeaning f) s typed well none = functions_step enums f s
      (fine_type enums f.argument (none-first (type_fault enums f.argument) (type_fault enums f.output) none) well.0)
      (fine_type enums f.output (none-second (type_fault enums f.argument) (type_fault enums f.output) none) well.1)
  meaning_steps (TermMeaning t) s typed well none = terms_step enums t s (fine enums t typed none (both_formed t well).types)

  pub meanings_steps : (ms : List Meaning) (s : Tables) → AreTypedMeanings ms → AllByRecursion IsFormedWhole ms → meanings_fault enums ms ≡ None → IsObeyable enums s (encode_meanings enums ms s)
  meanings_steps [] s typed well none = no_step enums s
  meanings_steps (m ∷ ms) s typed well none =
      let u : Tables = (encode_meaning enums m s).tables in
      steps_then enums (meaning_steps m s typed.0 well.0 (none-first (meaning_fault enums m) (meanings_fault enums ms) none))
      (steps_then enums (meanings_steps ms u typed.1 well.1 (none-second (meaning_fault enums m) (meanings_fault enums ms) none)) (no_step enums (encode_meanings enums ms u).tables))

  -- behind what stands before the lines of a node's parts
  pub heading_steps : (l : PlainLabel) (s : Tables) (ls : List Line) (u : Tables) → AreObeyable enums s ls u → AreObeyable enums s (heading l ++ ls) u
  heading_steps (FunctionLabel id) s ls u h = comment_first enums id s ls u h
  heading_steps l s ls u h = h
