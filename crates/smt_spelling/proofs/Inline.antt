-- The texts of what has no entry stay what they are when more gets names.
use Rattle.std.proofs.Common.{◌≡◌, ℕ, false, List, [], ◌∷◌, ◌++◌, Option, Some, None, refl, sym, ap, ◌∙◌, append-nil}
use Rattle.std.proofs.lemmas.Bool.{false≢true}
use Rattle.law_terms.specs.Plain.{PlainType, OptionType, BitVecType, BoolType, EntityType, ExtensionType, StringType, RecordType, SetType, LiteralTerm, BitVecLiteral, BoolLiteral, StringLiteral}
use Rattle.law_terms.specs.Nodes.{Meaning, TypeMeaning, FunctionMeaning, TermMeaning}
use Rattle.law_texts.specs.Reading.{Expression}
use Rattle.law_scripts.specs.Sorts.{option_sort, set_sort}
use Rattle.law_lines.specs.Line.{Line}
use Rattle.law_lines.specs.LineForms.{entity_lines}
use Rattle.law_lines.specs.Lines.{Enums, Written, declare_entity, declare_kind, declare_record, encode_attributes, encode_type, made_of, members_of, unless_named, ◌>>=◌}
use Rattle.law_lines.specs.NameTables.{Tables, name_of_type}
use Rattle.law_lines.proofs.Enter.{TypeNamesStay}
use Rattle.law_lines.proofs.Grow.{lookup_append}
use Rattle.law_terms.specs.Types.{type_eq}
use Rattle.smt_spelling.specs.NodeLines.{has_entry, with_name}
use Rattle.smt_spelling.specs.NodeTexts.{IsText}

-- a type keeps its name when another thing gets one
pub names_stay : (s : Tables) (m : Meaning) (x : List ℕ) → TypeNamesStay s (with_name s m x)
names_stay s (TypeMeaning u) x t n h = lookup_append (type_eq t) s.types ((u, x) ∷ []) n h
names_stay s (FunctionMeaning f) x t n h = h
names_stay s (TermMeaning u) x t n h = h

-- what has a name is stated by it, and what is stated without a line has one
named_stays : (o p : Option (List ℕ)) (s u : Tables) (f g : Tables → Written Expression) (e : Expression) → ((n : List ℕ) → o ≡ Some n → p ≡ Some n) → ((f s).lines ≡ [] → ⊥) → unless_named o s f ≡ made_of e s → unless_named p u g ≡ made_of e u
named_stays (Some n) p s u f g e keeps some h = ap (λ q. unless_named q u g) (keeps n refl) ∙ ap (λ w. made_of w.made u) h
named_stays None p s u f g e keeps some h = absurd (some (ap (λ w. w.lines) h))

entity_some : (members : Option (List (List ℕ))) (t d : List ℕ) → entity_lines members t d ≡ [] → ⊥
entity_some None t d h = cc
entity_some (Some ms) t d h = cc

some_behind : (ls : List Line) (l : Line) (ms : List Line) → ls ++ l ∷ ms ≡ [] → ⊥
some_behind [] l ms h = cc
some_behind (k ∷ ls) l ms h = cc

-- a sort around what was made
around : (w : Written Expression) (f : Expression → Expression) (e : Expression) (s : Tables) → (w >>= λ sort u. made_of (f sort) u) ≡ made_of e s → (w ≡ made_of w.made s) × (f w.made ≡ e)
around w f e s h =
    let lines : w.lines ≡ [] = sym (append-nil w.lines) ∙ ap (λ x. x.lines) h in
    let tables : w.tables ≡ s = ap (λ x. x.tables) h in
    (λ i. record { made = w.made; lines = lines i; tables = tables i }, ap (λ x. x.made) h)

-- a type that is stated without a line is stated so under more names
pub type_stays : (enums : Enums) (t : PlainType) (s u : Tables) (e : Expression) → TypeNamesStay s u → encode_type enums t s ≡ made_of e s → encode_type enums t u ≡ made_of e u
type_stays enums (OptionType t) s u e keeps h =
    let (same, is) = around (encode_type enums t s) option_sort e s h in
    ap (λ w. w >>= λ sort v. made_of (option_sort sort) v) (type_stays enums t s u (encode_type enums t s).made keeps same) ∙ ap (λ x. made_of x u) is
type_stays enums (BitVecType n) s u e keeps h = ap (λ w. made_of w.made u) h
type_stays enums BoolType s u e keeps h = ap (λ w. made_of w.made u) h
type_stays enums (EntityType n) s u e keeps h =
    named_stays (name_of_type s (EntityType n)) (name_of_type u (EntityType n)) s u (λ v. declare_entity enums n v) (λ v. declare_entity enums n v) e (keeps (EntityType n)) (entity_some (members_of enums n) n _) h
type_stays enums (ExtensionType k) s u e keeps h =
    named_stays (name_of_type s (ExtensionType k)) (name_of_type u (ExtensionType k)) s u (λ v. declare_kind k v) (λ v. declare_kind k v) e (keeps (ExtensionType k)) (λ g. cc) h
type_stays enums StringType s u e keeps h = ap (λ w. made_of w.made u) h
type_stays enums (RecordType x) s u e keeps h =
    named_stays (name_of_type s (RecordType x)) (name_of_type u (RecordType x)) s u (λ v. encode_attributes enums x v >>= λ sorts w. declare_record x sorts w) (λ v. encode_attributes enums x v >>= λ sorts w. declare_record x sorts w) e (keeps (RecordType x)) (some_behind (encode_attributes enums x s).lines _ _) h
type_stays enums (SetType t) s u e keeps h =
    let (same, is) = around (encode_type enums t s) set_sort e s h in
    ap (λ w. w >>= λ sort v. made_of (set_sort sort) v) (type_stays enums t s u (encode_type enums t s).made keeps same) ∙ ap (λ x. made_of x u) is

-- what is stated without a line, and has no entry, is stated so under more names
pub text_stays : (enums : Enums) (s u : Tables) (m : Meaning) (text : List ℕ) → has_entry m ≡ false → TypeNamesStay s u → IsText enums s m text → IsText enums u m text
text_stays enums s u (TypeMeaning t) text none keeps (e, stated, spells) = (e, type_stays enums t s u e keeps stated, spells)
text_stays enums s u (TermMeaning (LiteralTerm (BitVecLiteral w a))) text none keeps (e, stated, spells) = (e, ap (λ w. made_of w.made u) stated, spells)
text_stays enums s u (TermMeaning (LiteralTerm (BoolLiteral b))) text none keeps (e, stated, spells) = (e, ap (λ w. made_of w.made u) stated, spells)
text_stays enums s u (TermMeaning (LiteralTerm (StringLiteral b))) text none keeps (e, stated, spells) = (e, ap (λ w. made_of w.made u) stated, spells)
text_stays enums s u m text none keeps is = absurd (false≢true (sym none))
