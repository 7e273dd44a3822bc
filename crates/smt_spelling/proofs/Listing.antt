-- Lists of terms, by the numbers that stand for them.
use Rattle.std.proofs.Common.{◌≡◌, ◌<◌, ℕ, List, [], ◌∷◌, length, map, refl, ap, arith, Some}
use Rattle.std.specs.List.{AllByRecursion}
use Rattle.std.specs.Option.{option_or}
use Rattle.std.specs.Prelude.{option_map}
use Rattle.law_terms.specs.Faults.{first_fault, term_fault}
use Rattle.law_terms.specs.Plain.{PlainTerm, terms}
use Rattle.law_terms.specs.TypeValues.{Enums}
use Rattle.law_terms.specs.Meanings.{all_found, found, meanings}
use Rattle.law_terms.specs.Nodes.{Meaning, PlainNode, TermMeaning}
use Rattle.law_terms.proofs.Places.{as_many, found_within, map_back, then_back}
use Rattle.law_texts.specs.Reading.{Expression}
use Rattle.law_lines.specs.Lines.{Written, encode_term, encode_terms, made_of, ◌>>=◌}
use Rattle.law_lines.specs.NameTables.{Tables}
use Rattle.smt_spelling.specs.NodeLines.{encode_meanings, meanings_fault}

pub terms_stated : (enums : Enums) (ts : List PlainTerm) (s : Tables) → encode_meanings enums (map TermMeaning ts) s ≡ encode_terms enums (terms ts) s
terms_stated enums [] s = refl
terms_stated enums (t ∷ ts) s = ap (λ (f : Tables → Written (List Expression)). encode_term enums t s >>= λ e u. f u >>= λ es v. made_of (e ∷ es) v) (λ i u. terms_stated enums ts u i)

pub terms_fault_is : (enums : Enums) (ts : List PlainTerm) → meanings_fault enums (map TermMeaning ts) ≡ first_fault enums ts
terms_fault_is enums [] = refl
terms_fault_is enums (t ∷ ts) = ap (option_or (term_fault enums t)) (terms_fault_is enums ts)

pub all_within : (ns : List PlainNode) (is : List ℕ) (ps : List Meaning) (n : ℕ) → n ≡ length ns → all_found (meanings ns) is ≡ Some ps → AllByRecursion (λ place. place < n) is
all_within ns [] ps n size h = tt
all_within ns (i ∷ is) ps n size h =
    let (m, e, g) = then_back (λ m. option_map (λ more. m ∷ more) (all_found (meanings ns) is)) (found (meanings ns) i) ps h in
    let (more, f, same) = map_back (λ more. m ∷ more) (all_found (meanings ns) is) ps g in
    let b = found_within (meanings ns) i m e in
    (omega (arith, b, as_many ns, size), all_within ns is more n size f)
