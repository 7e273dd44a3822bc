-- What a node of a known label stands for, where the label leaves no choice.
use Rattle.std.proofs.Common.{◌≡◌, Bool, true, false, List, [], ◌∷◌, Option, Some, None, refl, sym, ap, ◌∙◌, subst}
use Rattle.std.specs.Bool.{then_some}
use Rattle.std.specs.Prelude.{IfSome, option_map}
use Rattle.std.proofs.lemmas.Bool.{false≢true}
use Rattle.law_terms.specs.Meanings.{stands_for}
use Rattle.law_terms.specs.Nodes.{PlainLabel, BitVecLabel, BoolLabel, EntityLabel, ExtensionLabel, StringLabel, VariableLabel, Meaning, TermMeaning, TypeMeaning}
use Rattle.law_terms.specs.Parts.{type_label}
use Rattle.law_terms.specs.Plain.{PlainType, BitVecType, BoolType, EntityType, ExtensionType, StringType, VariableTerm}
use Rattle.law_terms.proofs.TermTotal.{types_decided}
use Rattle.law_terms.specs.Meanings.{all_found, meaning_at, meanings}
use Rattle.law_terms.specs.Parts.{label_in, parts_in}
use Rattle.smt_nodes.specs.Interned.{meaning_in, nodes_of}
use Rattle.smt_nodes.specs.View.{place_of, places_of}
use Rattle.smt_nodes.specs.declared.id.NodeId.{NodeId}
use Rattle.smt_nodes.specs.declared.interner.Interner.{Interner}
use Rattle.smt_nodes.proofs.Finding.{made_so}
use Rattle.smt_nodes.proofs.Interning.{one_found}
use Rattle.smt_jobs.specs.Direct.{is_atomic}

atomic_made : (x : PlainType) → is_atomic x ≡ true → (ps : List Meaning) (m : Meaning) → stands_for (type_label x) ps ≡ Some m → m ≡ TypeMeaning x
atomic_made (BitVecType n) a [] m h = cc
atomic_made (BitVecType n) a (TypeMeaning t ∷ ps) m h = absurd (cc)
atomic_made (BitVecType n) a (p ∷ ps) m h = absurd (cc)
atomic_made BoolType a [] m h = cc
atomic_made BoolType a (TypeMeaning t ∷ ps) m h = absurd (cc)
atomic_made BoolType a (p ∷ ps) m h = absurd (cc)
atomic_made (EntityType e) a [] m h = cc
atomic_made (EntityType e) a (TypeMeaning t ∷ ps) m h = absurd (cc)
atomic_made (EntityType e) a (p ∷ ps) m h = absurd (cc)
atomic_made (ExtensionType k) a [] m h = cc
atomic_made (ExtensionType k) a (TypeMeaning t ∷ ps) m h = absurd (cc)
atomic_made (ExtensionType k) a (p ∷ ps) m h = absurd (cc)
atomic_made StringType a [] m h = cc
atomic_made StringType a (TypeMeaning t ∷ ps) m h = absurd (cc)
atomic_made StringType a (p ∷ ps) m h = absurd (cc)
atomic_made x a ps m h = absurd (false≢true a)

atomic_so : (x : PlainType) → is_atomic x ≡ true → (l : PlainLabel) (ps : List Meaning) (m : Meaning) → l ≡ type_label x → stands_for l ps ≡ Some m → m ≡ TypeMeaning x
atomic_so x a l ps m e h = atomic_made x a ps m (ap (λ k. stands_for k ps) (sym e) ∙ h)

variable_made : (id : _) (x : PlainType) (m : Meaning) → stands_for (VariableLabel id) (TypeMeaning x ∷ []) ≡ Some m → m ≡ TermMeaning (VariableTerm id x)
variable_made id x m h =
    let made : stands_for (VariableLabel id) (TypeMeaning x ∷ []) ≡ Some (TermMeaning (VariableTerm id x)) = ap (λ b. then_some b (TermMeaning (VariableTerm id x))) ((types_decided x x).1 refl) in
    let same : Some m ≡ Some (TermMeaning (VariableTerm id x)) = sym h ∙ made in
    cc

module _ (i : Interner) (id : NodeId) where
  type_by : (o : Option Meaning) → meaning_in i id ≡ o → (x : PlainType) → is_atomic x ≡ true → (l : PlainLabel) → Some l ≡ option_map label_in o → l ≡ type_label x → o ≡ Some (TypeMeaning x)
  type_by None k x a l h e = absurd (cc)
  type_by (Some m) k x a l h e =
      let same : l ≡ label_in m = cc in
      ap Some (atomic_so x a (label_in m) (parts_in m) m (sym same ∙ e) (made_so (nodes_of i) i.graph (place_of id) m k))

  -- a node with the label of a type that has none inside it stands for that type
  pub type_so : (x : PlainType) → is_atomic x ≡ true → (l : PlainLabel) → Some l ≡ option_map label_in (meaning_in i id) → l ≡ type_label x → meaning_in i id ≡ Some (TypeMeaning x)
  type_so x a l h e = type_by (meaning_in i id) refl x a l h e

  variable_by : (o : Option Meaning) → meaning_in i id ≡ o → (ty : NodeId) (x : PlainType) (name : _) → Some (VariableLabel name) ≡ option_map label_in o → IfSome o (λ m. all_found (meanings (nodes_of i)) (places_of (ty ∷ [])) ≡ Some (parts_in m)) → meaning_in i ty ≡ Some (TypeMeaning x)
      → o ≡ Some (TermMeaning (VariableTerm name x))
  variable_by None k ty x name h f e = absurd (cc)
  variable_by (Some m) k ty x name h f e =
      let same : VariableLabel name ≡ label_in m = cc in
      let found : Some (parts_in m) ≡ Some (TypeMeaning x ∷ []) = sym f ∙ one_found (nodes_of i) ty (TypeMeaning x) e in
      let parts : parts_in m ≡ TypeMeaning x ∷ [] = cc in
      ap Some (variable_made name x m (ap (λ l. stands_for l (TypeMeaning x ∷ [])) same ∙ ap (stands_for (label_in m)) (sym parts) ∙ made_so (nodes_of i) i.graph (place_of id) m k))

  -- a node with the label of a variable, whose one part stands for this type, stands for the variable of this type
  pub variable_so : (ty : NodeId) (x : PlainType) (name : _) → Some (VariableLabel name) ≡ option_map label_in (meaning_in i id) → IfSome (meaning_in i id) (λ m. all_found (meanings (nodes_of i)) (places_of (ty ∷ [])) ≡ Some (parts_in m)) → meaning_in i ty ≡ Some (TypeMeaning x)
      → meaning_in i id ≡ Some (TermMeaning (VariableTerm name x))
  variable_so ty x name h f e = variable_by (meaning_in i id) refl ty x name h f e
