-- What the lines of terms declare: variables, functions and terms that are reached, each under its name.
use Rattle.law_theorem.specs.Open.{IsAmong}
use Rattle.law_lines.proofs.Enter.{has_stays}
use Rattle.law_lines.proofs.Grow.{head_grows, terms_grow, names_stay, fields_grow, type_grows}
use Rattle.law_lines.proofs.Kept.{lines_append}
use Rattle.law_lines.proofs.Making.{functions_are_made, terms_are_made}
use Rattle.law_lines.proofs.OfTypes.{sort_later}
use Rattle.law_lines.proofs.Single.{keeps_term, with_term, keeps_function}
use Rattle.law_lines.proofs.Stays.{sorts_stay}
use Rattle.law_lines.specs.TermTexts.{named_text}
use Rattle.law_lines.specs.Fit.{EachLine}
use Rattle.law_lines.specs.TableGrowth.{Keeps}
use Rattle.law_lines.specs.Line.{Line, Comment, DeclareDatatype, DeclareConst, DeclareFun, DefineFun, Assert, Push, Pop}
use Rattle.law_lines.specs.LineForms.{entity_lines, variable_lines}
use Rattle.law_lines.specs.Lines.{Written, next_term, next_function, unless_named, define_entity, encode_type, encode_attributes, encode_function, encode_literal, encode_head, Rendering, AsApplication, AsEqualsIntMin, AsFalse, application_rendering, define_application, encode_term, encode_terms, encode_fields, encode}
use Rattle.law_lines.specs.NameTables.{Tables, name_of_term, name_of_type, name_of_function}
use Rattle.law_scripts.specs.Script.{name}
use Rattle.law_texts.specs.Reading.{Expression}
use Rattle.law_terms.proofs.Soundness.{all-front, all-back}
use Rattle.law_terms.specs.Plain.{PlainType, OptionType, BitVecType, BoolType, EntityType, ExtensionType, StringType, RecordType, SetType, AttributeTypes, no_attributes, attribute, PlainFunction, PlainOp, UufOp, PlainLiteral, BitVecLiteral, BoolLiteral, EntityLiteral, ExtensionLiteral, StringLiteral, PlainTerm, Application, NoneTerm, LiteralTerm, RecordTerm, SetTerm, SomeTerm, VariableTerm, PlainTerms, no_terms, one_term, PlainFields, no_fields, one_field, terms}
use Rattle.law_terms.specs.Reached.{subterms, subterms_of_all, subterms_of_fields}
use Rattle.law_terms.specs.TypeValues.{Enums, members_of}
use Rattle.law_terms.specs.Types.{type_of, literal_type}
use Rattle.std.proofs.Common.{◌≡◌, ℕ, List, [], ◌∷◌, ◌++◌, map, refl, sym, Option, Some, None, ◌∙◌}
use Rattle.std.specs.List.{AllByRecursion}
use Rattle.law_theorem.specs.Fits.{HasDefinition, DefinitionOrigin, VariableOrigin, FunctionOrigin}

-- where a line comes from
abbrev pub OriginOf : Enums → List PlainTerm → Tables → Line → Type 0
OriginOf enums us s (DeclareConst n sort) = VariableOrigin us s n sort
OriginOf enums us s (DeclareFun n argument sort) = FunctionOrigin us s n argument sort
OriginOf enums us s (DefineFun n sort body) = DefinitionOrigin enums us s n
OriginOf enums us s Push = ⊥
OriginOf enums us s Pop = ⊥
OriginOf enums us s l = Unit {0}

named_is : (o : Option (List ℕ)) (n : List ℕ) → named_text o ≡ Some (name n) → o ≡ Some n
named_is (Some m) n h = cc
named_is None n h = absurd cc

module _ (enums : Enums) (us : List PlainTerm) where
  abbrev Own : Tables → List Line → Type 0
  Own s ls = EachLine (OriginOf enums us s) ls

  pub line_stays : (s u : Tables) → Keeps s u → (l : Line) → OriginOf enums us s l → OriginOf enums us u l
  line_stays s u k (DeclareConst n sort) h = record {
    id = h.id;
    type = h.type;
    reached = h.reached;
    named = k.terms (VariableTerm h.id h.type) n h.named;
    has = has_stays s u k.types h.type h.has;
    sorted = h.sorted ∙ sym (sorts_stay s u h.type k h.has);
  }
  line_stays s u k (DeclareFun n a sort) h = record {
    function = h.function;
    arguments = h.arguments;
    type = h.type;
    reached = h.reached;
    named = k.functions h.function n h.named;
    has = (has_stays s u k.types h.function.argument h.has.0, has_stays s u k.types h.function.output h.has.1);
    argument_sorted = h.argument_sorted ∙ sym (sorts_stay s u h.function.argument k h.has.0);
    sorted = h.sorted ∙ sym (sorts_stay s u h.function.output k h.has.1);
  }
  line_stays s u k Push h = absurd h
  line_stays s u k Pop h = absurd h
  line_stays s u k (Comment x) h = tt
  line_stays s u k (DeclareDatatype n ps cs) h = tt
  line_stays s u k (DefineFun n sort body) h = record { term = h.term; reached = h.reached; named = k.terms h.term n h.named; defined = h.defined }
  line_stays s u k (Assert e) h = tt

  lines_stay : (s u : Tables) → Keeps s u → (ls : List Line) → Own s ls → Own u ls
  lines_stay s u k [] h = tt
  lines_stay s u k (l ∷ ls) h = (line_stays s u k l h.0, lines_stay s u k ls h.1)

  append : (s : Tables) (ls ms : List Line) → Own s ls → Own s ms → Own s (ls ++ ms)
  append s ls ms a b = lines_append (OriginOf enums us s) ls ms a b

  -- ---- types and functions define nothing

  plain_unless : (v : Tables) (o : Option (List ℕ)) (s : Tables) (k : Tables → Written Expression) → Own v (k s).lines → Own v (unless_named o s k).lines
  plain_unless v (Some n) s k h = tt
  plain_unless v None s k h = h

  entity_plain : (v : Tables) (o : Option (List (List ℕ))) (type n : List ℕ) → Own v (entity_lines o type n)
  entity_plain v None type n = (tt, (tt, tt))
  entity_plain v (Some ms) type n = (tt, (tt, tt))

  mutual
    types : (v : Tables) (t : PlainType) (s : Tables) → Own v (encode_type enums t s).lines
    types v (OptionType t) s = append v (encode_type enums t s).lines [] (types v t s) tt
    types v (BitVecType w) s = tt
    types v BoolType s = tt
    types v (EntityType type) s = plain_unless v (name_of_type s (EntityType type)) s _ (entity_plain v (members_of enums type) type _)
    types v (ExtensionType kind) s = plain_unless v (name_of_type s (ExtensionType kind)) s _ (tt, tt)
    types v StringType s = tt
    types v (RecordType x) s = plain_unless v (name_of_type s (RecordType x)) s _ (append v (encode_attributes enums x s).lines _ (attributes v x s) (tt, (tt, tt)))
    types v (SetType t) s = append v (encode_type enums t s).lines [] (types v t s) tt

    attributes : (v : Tables) (x : AttributeTypes) (s : Tables) → Own v (encode_attributes enums x s).lines
    attributes v no_attributes s = tt
    attributes v (attribute a t x) s =
        append v (encode_type enums t s).lines _ (types v t s) (append v (encode_attributes enums x (encode_type enums t s).tables).lines [] (attributes v x (encode_type enums t s).tables) tt)

  function : (f : PlainFunction) (ts : PlainTerms) (type : PlainType) → IsAmong (Application (UufOp f) ts type) us → (s : Tables) → Own (encode_function enums f s).tables (encode_function enums f s).lines
  function f ts type r s = by (name_of_function s f) (functions_are_made enums f s)
    where
      u : Tables
      u = (encode_type enums f.argument s).tables

      v : Tables
      v = (encode_type enums f.output (encode_type enums f.argument s).tables).tables

      inner : Tables → Written Expression
      inner s = record {
        made = name (next_function (encode_type enums f.output (encode_type enums f.argument s).tables).tables);
        lines = Comment f.id ∷ ((encode_type enums f.argument s).lines ++ ((encode_type enums f.output (encode_type enums f.argument s).tables).lines ++ (DeclareFun (next_function (encode_type enums f.output (encode_type enums f.argument s).tables).tables) (encode_type enums f.argument s).made (encode_type enums f.output (encode_type enums f.argument s).tables).made ∷ [])));
        tables = record (encode_type enums f.output (encode_type enums f.argument s).tables).tables { functions = (encode_type enums f.output (encode_type enums f.argument s).tables).tables.functions ++ (f, next_function (encode_type enums f.output (encode_type enums f.argument s).tables).tables) ∷ [] };
      }

      by : (o : Option (List ℕ)) → named_text (name_of_function (unless_named o s inner).tables f) ≡ Some (unless_named o s inner).made → Own (unless_named o s inner).tables (unless_named o s inner).lines
      by (Some n) m = tt
      by None m =
          let w : Tables = (inner s).tables in
          let k1 : Keeps v w = keeps_function v f (next_function v) in
          let k0 : Keeps u v = names_stay enums u _ v (type_grows enums f.output u) in
          let k : Keeps u w = record { terms = λ t n h. k1.terms t n (k0.terms t n h); types = λ t n h. k1.types t n (k0.types t n h); functions = λ t n h. k1.functions t n (k0.functions t n h) } in
          let a = sort_later enums f.argument s w k in
          let b = sort_later enums f.output u w k1 in (
            tt,
            append w (encode_type enums f.argument s).lines _ (types w f.argument s) (append w (encode_type enums f.output u).lines _ (types w f.output u) (
              record {
                function = f;
                arguments = ts;
                type = type;
                reached = r;
                named = named_is (name_of_function w f) (next_function v) m;
                has = (a.0, b.0);
                argument_sorted = sym a.1;
                sorted = sym b.1;
              },
              tt,
            )),
          )

  head : (op : PlainOp) (ts : PlainTerms) (type : PlainType) → IsAmong (Application op ts type) us → (ps : PlainTerms) (s : Tables) → Own (encode_head enums op ps s).tables (encode_head enums op ps s).lines
  head (UufOp f) ts type r ps s = function f ts type r s
  head op ts type r ps s = tt

  -- ---- terms

  unless : (t : PlainTerm) (o : Option (List ℕ)) (s : Tables) (k : Tables → Written Expression) → named_text (name_of_term (unless_named o s k).tables t) ≡ Some (unless_named o s k).made
      → (named_text (name_of_term (k s).tables t) ≡ Some (k s).made → Own (k s).tables (k s).lines) → Own (unless_named o s k).tables (unless_named o s k).lines
  unless t (Some n) s k m h = tt
  unless t None s k m h = h m

  -- the line of a term's definition
  own : (t : PlainTerm) (u : Tables) (n : List ℕ) → IsAmong t us → HasDefinition enums t → named_text (name_of_term u t) ≡ Some (name n) → DefinitionOrigin enums us u n
  own t u n r d m = record { term = t; reached = r; named = named_is (name_of_term u t) n m; defined = d }

  application : (m : Rendering) (op : PlainOp) (ts : PlainTerms) (type : PlainType) → application_rendering op ts type ≡ m → IsAmong (Application op ts type) us → (arguments : Tables → Written (List Expression)) → ((s : Tables) → Own (arguments s).tables (arguments s).lines)
      → (sort : Expression) (s : Tables) → named_text (name_of_term (define_application enums m op ts type arguments sort s).tables (Application op ts type)) ≡ Some (define_application enums m op ts type arguments sort s).made
      → Own (define_application enums m op ts type arguments sort s).tables (define_application enums m op ts type arguments sort s).lines
  application AsApplication op ts type e r arguments h sort s made =
      let w : Tables = (arguments s).tables in
      let v : Tables = (encode_head enums op ts w).tables in
      let end : Tables = (define_application enums AsApplication op ts type arguments sort s).tables in
      let k1 : Keeps v end = keeps_term v (Application op ts type) (next_term v) in
      let k0 : Keeps w v = names_stay enums w _ v (head_grows enums op ts w) in
      let k : Keeps w end = record { terms = λ t n h. k1.terms t n (k0.terms t n h); types = λ t n h. k1.types t n (k0.types t n h); functions = λ t n h. k1.functions t n (k0.functions t n h) } in
      append end (arguments s).lines _ (lines_stay w end k (arguments s).lines (h s))
      (append end (encode_head enums op ts w).lines _ (lines_stay v end k1 (encode_head enums op ts w).lines (head op ts type r ts w)) (own (Application op ts type) end (next_term v) r (λ f. cc) made, tt))
  application (AsEqualsIntMin width) op ts type e r arguments h sort s made =
      let w : Tables = (arguments s).tables in
      let end : Tables = (define_application enums (AsEqualsIntMin width) op ts type arguments sort s).tables in
      let k1 : Keeps w end = keeps_term w (Application op ts type) (next_term w) in
      append end (arguments s).lines _ (lines_stay w end k1 (arguments s).lines (h s)) (own (Application op ts type) end (next_term w) r (λ f. cc) made, tt)
  application AsFalse op ts type e r arguments h sort s made = tt

  entity : (o : Option (List (List ℕ))) (type id n : List ℕ) → members_of enums type ≡ o → IsAmong (LiteralTerm (EntityLiteral type id)) us → (s : Tables)
      → named_text (name_of_term (define_entity o type id n s).tables (LiteralTerm (EntityLiteral type id))) ≡ Some (define_entity o type id n s).made → Own (define_entity o type id n s).tables (define_entity o type id n s).lines
  entity (Some ms) type id n e r s made = tt
  entity None type id n e r s made = (own (LiteralTerm (EntityLiteral type id)) _ (next_term s) r e made, tt)

  literal : (p : PlainLiteral) → IsAmong (LiteralTerm p) us → (s : Tables) → Own (encode_literal enums p s).tables (encode_literal enums p s).lines
  literal (BitVecLiteral w n) r s = tt
  literal (BoolLiteral b) r s = tt
  literal (StringLiteral x) r s = tt
  literal (EntityLiteral type id) r s =
      unless (LiteralTerm (EntityLiteral type id)) (name_of_term s (LiteralTerm (EntityLiteral type id))) s _ (terms_are_made enums (LiteralTerm (EntityLiteral type id)) s)
      (λ made. append _ (encode_type enums (EntityType type) s).lines _ (types _ (EntityType type) s) (entity (members_of enums type) type id _ refl r (encode_type enums (EntityType type) s).tables made))
  literal (ExtensionLiteral x) r s =
      unless (LiteralTerm (ExtensionLiteral x)) (name_of_term s (LiteralTerm (ExtensionLiteral x))) s _ (terms_are_made enums (LiteralTerm (ExtensionLiteral x)) s)
      (λ made. append _ (encode_type enums (literal_type (ExtensionLiteral x)) s).lines _ (types _ (literal_type (ExtensionLiteral x)) s) (own (LiteralTerm (ExtensionLiteral x)) _ (next_term (encode_type enums (literal_type (ExtensionLiteral x)) s).tables) r tt made, tt))

  variable : (id : List ℕ) (type : PlainType) → IsAmong (VariableTerm id type) us → (s : Tables) → Own (encode_term enums (VariableTerm id type) s).tables (encode_term enums (VariableTerm id type) s).lines
  variable id type r s = by (name_of_term s (VariableTerm id type)) (terms_are_made enums (VariableTerm id type) s)
    where
      inner : Tables → Written Expression
      inner s = record {
        made = name (next_term (encode_type enums type s).tables);
        lines = (encode_type enums type s).lines ++ variable_lines id (next_term (encode_type enums type s).tables) (encode_type enums type s).made;
        tables = with_term (VariableTerm id type) (next_term (encode_type enums type s).tables) (encode_type enums type s).tables;
      }

      by : (o : Option (List ℕ)) → named_text (name_of_term (unless_named o s inner).tables (VariableTerm id type)) ≡ Some (unless_named o s inner).made → Own (unless_named o s inner).tables (unless_named o s inner).lines
      by (Some n) m = tt
      by None m =
          let v : Tables = (encode_type enums type s).tables in
          let w : Tables = (inner s).tables in
          let a = sort_later enums type s w (keeps_term v (VariableTerm id type) (next_term v)) in
          append w (encode_type enums type s).lines _ (types w type s) (
            tt,
            (
              record {
                id = id;
                type = type;
                reached = r;
                named = named_is (name_of_term w (VariableTerm id type)) (next_term v) m;
                has = a.0;
                sorted = sym a.1;
              },
              tt,
            ),
          )

  abbrev All : List PlainTerm → Type 0
  All xs = AllByRecursion (λ x. IsAmong x us) xs

  mutual
    term : (t : PlainTerm) → All (subterms t) → (s : Tables) → Own (encode_term enums t s).tables (encode_term enums t s).lines
    term (Application op ts type) h s =
        let u : Tables = (encode_type enums type s).tables in
        unless (Application op ts type) (name_of_term s (Application op ts type)) s _ (terms_are_made enums (Application op ts type) s)
        (λ made. append _ (encode_type enums type s).lines _ (types _ type s)
        (application (application_rendering op ts type) op ts type refl (all-back (λ x. IsAmong x us) (subterms_of_all ts) (Application op ts type ∷ []) h).0 (λ w. encode_terms enums ts w)
        (λ w. each ts (all-front (λ x. IsAmong x us) (subterms_of_all ts) (Application op ts type ∷ []) h) w) (encode_type enums type s).made u made))
    term (NoneTerm type) h s =
        unless (NoneTerm type) (name_of_term s (NoneTerm type)) s _ (terms_are_made enums (NoneTerm type) s)
        (λ made. append _ (encode_type enums (OptionType type) s).lines _ (types _ (OptionType type) s) (own (NoneTerm type) _ (next_term (encode_type enums (OptionType type) s).tables) h.0 tt made, tt))
    term (LiteralTerm p) h s = literal p h.0 s
    term (RecordTerm x) h s =
        let u : Tables = (encode_type enums (type_of (RecordTerm x)) s).tables in
        let w : Tables = (encode_fields enums x u).tables in
        let r : IsAmong (RecordTerm x) us = (all-back (λ x. IsAmong x us) (subterms_of_fields x) (RecordTerm x ∷ []) h).0 in
        unless (RecordTerm x) (name_of_term s (RecordTerm x)) s _ (terms_are_made enums (RecordTerm x) s)
        (λ made. append _ (encode_type enums (type_of (RecordTerm x)) s).lines _ (types _ (type_of (RecordTerm x)) s)
        (append _ (encode_fields enums x u).lines _ (lines_stay w _ (keeps_term w (RecordTerm x) (next_term w)) (encode_fields enums x u).lines (fields x (all-front (λ x. IsAmong x us) (subterms_of_fields x) (RecordTerm x ∷ []) h) u))
        (own (RecordTerm x) _ (next_term w) r tt made, tt)))
    term (SetTerm t ts) h s =
        let u : Tables = (encode_type enums (SetType t) s).tables in
        let w : Tables = (encode_terms enums ts u).tables in
        let r : IsAmong (SetTerm t ts) us = (all-back (λ x. IsAmong x us) (subterms_of_all ts) (SetTerm t ts ∷ []) h).0 in
        unless (SetTerm t ts) (name_of_term s (SetTerm t ts)) s _ (terms_are_made enums (SetTerm t ts) s)
        (λ made. append _ (encode_type enums (SetType t) s).lines _ (types _ (SetType t) s)
        (append _ (encode_terms enums ts u).lines _ (lines_stay w _ (keeps_term w (SetTerm t ts) (next_term w)) (encode_terms enums ts u).lines (each ts (all-front (λ x. IsAmong x us) (subterms_of_all ts) (SetTerm t ts ∷ []) h) u))
        (own (SetTerm t ts) _ (next_term w) r tt made, tt)))
    term (SomeTerm t) h s =
        let u : Tables = (encode_type enums (type_of (SomeTerm t)) s).tables in
        let w : Tables = (encode_term enums t u).tables in
        let r : IsAmong (SomeTerm t) us = (all-back (λ x. IsAmong x us) (subterms t) (SomeTerm t ∷ []) h).0 in
        unless (SomeTerm t) (name_of_term s (SomeTerm t)) s _ (terms_are_made enums (SomeTerm t) s)
        (λ made. append _ (encode_type enums (type_of (SomeTerm t)) s).lines _ (types _ (type_of (SomeTerm t)) s)
        (append _ (encode_term enums t u).lines _ (lines_stay w _ (keeps_term w (SomeTerm t) (next_term w)) (encode_term enums t u).lines (term t (all-front (λ x. IsAmong x us) (subterms t) (SomeTerm t ∷ []) h) u))
        (own (SomeTerm t) _ (next_term w) r tt made, tt)))
    term (VariableTerm id type) h s = variable id type h.0 s

    each : (ts : PlainTerms) → All (subterms_of_all ts) → (s : Tables) → Own (encode_terms enums ts s).tables (encode_terms enums ts s).lines
    each no_terms h s = tt
    each (one_term t ts) h s =
        let u : Tables = (encode_term enums t s).tables in
        let v : Tables = (encode_terms enums ts u).tables in
        append v (encode_term enums t s).lines _ (lines_stay u v (names_stay enums u _ v (terms_grow enums ts u)) (encode_term enums t s).lines (term t (all-front (λ x. IsAmong x us) (subterms t) (subterms_of_all ts) h) s))
        (append v (encode_terms enums ts u).lines [] (each ts (all-back (λ x. IsAmong x us) (subterms t) (subterms_of_all ts) h) u) tt)

    fields : (x : PlainFields) → All (subterms_of_fields x) → (s : Tables) → Own (encode_fields enums x s).tables (encode_fields enums x s).lines
    fields no_fields h s = tt
    fields (one_field a t x) h s =
        let u : Tables = (encode_term enums t s).tables in
        let v : Tables = (encode_fields enums x u).tables in
        append v (encode_term enums t s).lines _ (lines_stay u v (names_stay enums u _ v (fields_grow enums x u)) (encode_term enums t s).lines (term t (all-front (λ x. IsAmong x us) (subterms t) (subterms_of_fields x) h) s))
        (append v (encode_fields enums x u).lines [] (fields x (all-back (λ x. IsAmong x us) (subterms t) (subterms_of_fields x) h) u) tt)

-- ---- a list of terms

asserts : (enums : Enums) (us : List PlainTerm) (s : Tables) (es : List Expression) → EachLine (OriginOf enums us s) (map Assert es)
asserts enums us s [] = tt
asserts enums us s (e ∷ es) = (tt, asserts enums us s es)

-- Where each line comes from that is written for terms.
pub lines_origins : (enums : Enums) (us ts : List PlainTerm) → AllByRecursion (λ x. IsAmong x us) (subterms_of_all (terms ts)) → (s : Tables)
    → EachLine (OriginOf enums us (encode enums ts s).tables) (encode enums ts s).lines
lines_origins enums us ts within s =
    let made = encode_terms enums (terms ts) s in
    lines_append (OriginOf enums us made.tables) made.lines (map Assert made.made) (each enums us (terms ts) within s) (asserts enums us made.tables made.made)
