-- The body of a term's definition applies the term's selector, and no other that is left open.
use Rattle.std.proofs.Common.{◌≡◌, ℕ, Bool, true, false, ◌&&◌, ◌||◌, cond, List, [], ◌∷◌, ◌++◌, map, refl, sym, ap, ap₂, ◌∙◌, subst, Option, Some, None}
use Rattle.std.specs.Prelude.{bytes_eq, codes, IsSome, unwrap_or}
use Rattle.std.specs.Cmp.{second_so}
use Rattle.std.proofs.lemmas.Bool.{and_parts, false≢true, cond-false, or_parts}
use Rattle.law_terms.specs.Plain.{IpAddrKind, PlainType, OptionType, BoolType, EntityType, ExtensionType, SetType, ExtensionOp, IpAddrV4Op, IpAddrV6Op, IpPrefixV4Op, IpPrefixV6Op, PlainOp, BvnegoOp, ExtOp, OptionGetOp, BitVecLiteral, BoolLiteral, EntityLiteral, ExtensionLiteral, StringLiteral, PlainTerm, Application, NoneTerm, LiteralTerm, RecordTerm, SetTerm, SomeTerm, VariableTerm, PlainTerms, no_terms, one_term}
use Rattle.law_terms.specs.Types.{type_eq, inner_type, types_of, extension_signature, result_type, is_type, type_of}
use Rattle.law_terms.specs.Typing.{typed_all}
use Rattle.law_terms.proofs.Soundness.{is_type-some, chosen}
use Rattle.law_terms.proofs.TypeOrder.{eq_same}
use Rattle.law_terms.specs.TypeValues.{Enums, members_of}
use Rattle.law_texts.specs.Reading.{Expression, expressions}
use Rattle.law_scripts.specs.Script.{Entry, Defined, Shape, Applied, State, name, group, is_in, built_in_names, shape, is_stated, shape_is_known, each_stated, look_up}
use Rattle.law_texts.specs.Options.{◌>>=◌}
use Rattle.law_scripts.specs.Sorts.{Entries, entries, bool_sort, entry_sort, named_sort, sort_in, option_sort}
use Rattle.law_scripts.specs.Value.{Selection, selection, selection_of, shape_selection, selections}
use Rattle.law_lines.specs.LineForms.{kind_constructors, extension_op_head, extension_body, none_body, set_body, record_body, application_body, least_body, some_body, entity_body}
use Rattle.law_lines.specs.EntryNames.{selector_name}
use Rattle.law_lines.specs.TermTexts.{string_text, named_text, text_of}
use Rattle.law_lines.specs.Lines.{Rendering, AsApplication, AsEqualsIntMin, AsFalse, application_rendering}
use Rattle.law_lines.specs.NameTables.{Tables, name_of_term, name_of_type}
use Rattle.law_lines.specs.Line.{DeclareDatatype}
use Rattle.law_lines.specs.Naming.{type_sort, type_name}
use Rattle.law_lines.specs.Entries.{TypeHasEntries, HaveTexts, text_or_nothing, texts_of, texts_of_fields, application_head, application_lines, entity_literal_lines, term_lines}
use Rattle.law_lines.specs.Fit.{Fit, EachLine, LineIsDeclared}
use Rattle.law_lines.proofs.Declared.{terms_are_declared, types_are_declared}
use Rattle.law_theorem.specs.CarriedInterpretations.{ip_type, is_range_selector}
use Rattle.law_theorem.proofs.Types.{there}
use Rattle.law_theorem.proofs.SelectionsHeads.{option_entry, option_selection, range_entry, range_selection, op_selections, own_selections, AreTypesCounted, AreFunctionsCounted, ranges_named, type_apart, plain_application, plain_least, least_selects}
use Rattle.law_theorem.specs.Fits.{HasDefinition}
use Rattle.law_theorem.proofs.SelectionsParts.{IsSound, named_if}
use Rattle.law_theorem.proofs.SelectionsPlain.{is_plain, plain_selects, plain_sort, plain_text, plain_texts, plain_fields, plain_extension, plain_none, plain_some, plain_set, plain_group, plain_record}
use Rattle.law_theorem.proofs.OrderedEntries.{Names, is_known, Known, Within, among, there_if}

-- ---- types of arguments

-- options, and types of extensions
abbrev is_inner : PlainType → Bool
is_inner (OptionType t) = true
is_inner (ExtensionType k) = true
is_inner t = false

opened : (u type : PlainType) → inner_type u ≡ Some type → u ≡ OptionType type
opened (OptionType t) type h = ap (λ o. OptionType (unwrap_or o t)) h
opened u type h = absurd cc

not_false : (op : PlainOp) (ts : PlainTerms) (type : PlainType) → is_inner type ≡ true → application_rendering op ts type ≡ AsFalse → ⊥
not_false BvnegoOp (one_term t no_terms) BoolType h e = false≢true h
not_false BvnegoOp ts type h e = cc
not_false op ts type h e = cc

-- an argument of such a type has a name
abbrev HasName : Tables → PlainTerm → Type 0
HasName s t = (n : List ℕ) × (name_of_term s t ≡ Some n) × (text_of s t ≡ Some (name n))

has_name : (s : Tables) (t : PlainTerm) → is_inner (type_of t) ≡ true → IsSome (text_of s t) → HasName s t
has_name s (LiteralTerm (BitVecLiteral w n)) h k = absurd (false≢true h)
has_name s (LiteralTerm (BoolLiteral b)) h k = absurd (false≢true h)
has_name s (LiteralTerm (StringLiteral x)) h k = absurd (false≢true h)
has_name s (LiteralTerm (EntityLiteral type id)) h k = absurd (false≢true h)
has_name s (LiteralTerm (ExtensionLiteral x)) h k = let p = named_if (name_of_term s (LiteralTerm (ExtensionLiteral x))) k in (p.0, p.1, ap named_text p.1)
has_name s (Application op ts type) h k = let p = named_if (name_of_term s (Application op ts type)) k in (p.0, p.1, ap named_text p.1)
has_name s (NoneTerm type) h k = let p = named_if (name_of_term s (NoneTerm type)) k in (p.0, p.1, ap named_text p.1)
has_name s (RecordTerm x) h k = let p = named_if (name_of_term s (RecordTerm x)) k in (p.0, p.1, ap named_text p.1)
has_name s (SetTerm t ts) h k = let p = named_if (name_of_term s (SetTerm t ts)) k in (p.0, p.1, ap named_text p.1)
has_name s (SomeTerm t) h k = let p = named_if (name_of_term s (SomeTerm t)) k in (p.0, p.1, ap named_text p.1)
has_name s (VariableTerm id type) h k = let p = named_if (name_of_term s (VariableTerm id type)) k in (p.0, p.1, ap named_text p.1)

same_body : (a b c d : Expression) → ◌≡◌ {A = Option Entry} (Some (Defined a b)) (Some (Defined c d)) → b ≡ d
same_body a b c d h = cc

-- ---- a selector, applied

-- the name is known, and so is what it is applied to
head_known : (older : Names) (f : List ℕ) (e : Expression) → shape (name f) (expressions (e ∷ [])) ≡ Applied f → (sorts : List ℕ → ℕ → Bool) → is_stated sorts (is_known older) (group (name f ∷ e ∷ [])) ≡ true
    → (is_known older f ≡ true) × (is_stated sorts (is_known older) e ≡ true)
head_known older f e h sorts k =
    let p = and_parts (is_known older f) (is_stated sorts (is_known older) e && true) (sym (ap (λ (x : Shape). shape_is_known sorts (is_known older) x (each_stated sorts (is_known older) (expressions (e ∷ [])))) h) ∙ k) in
    (p.0, (and_parts (is_stated sorts (is_known older) e) true p.1).0)

selects_one : (here : Entries) (f : List ℕ) (e sort : Expression) (x : Entry) → shape (name f) (expressions (e ∷ [])) ≡ Applied f → sort_in here e ≡ Some sort → here f ≡ Some x → selections here e ≡ []
    → selections here (group (name f ∷ e ∷ [])) ≡ selection_of f sort (Some x) ++ []
selects_one here f e sort x h sorted found plain =
    ap (λ (y : Shape). shape_selection here y (sort_in here e) ++ (selections here e ++ [])) h
    ∙ ap₂ (λ (o : Option Expression) (y : Option Entry). selection f o y ++ (selections here e ++ [])) sorted found
    ∙ ap (λ (xs : List Selection). selection_of f sort (Some x) ++ (xs ++ [])) plain

module _ (enums : Enums) (s : Tables) (state : State) (fit : Fit enums s state) (counted : AreTypesCounted s) (called : AreFunctionsCounted s)
    (free : (n : List ℕ) (x : Entry) → entries state n ≡ Some x → is_in n built_in_names ≡ false) where
  -- what stands for a term of such a type has its sort
  abbrev IsSorted : PlainTerm → List ℕ → Type 0
  IsSorted t n = (x : Entry) × (entries state n ≡ Some x) × (entry_sort x [] ≡ Some (type_sort s (type_of t)))

  application_sorted : (m : Rendering) (op : PlainOp) (ts : PlainTerms) (type : PlainType) (n : List ℕ) → (m ≡ AsFalse → ⊥) → EachLine (LineIsDeclared state) (application_lines enums s m op ts type n) → IsSorted (Application op ts type) n
  application_sorted AsApplication op ts type n h d = (_, d.0, refl)
  application_sorted (AsEqualsIntMin w) op ts type n h d = (_, d.0, refl)
  application_sorted AsFalse op ts type n h d = absurd (h refl)

  entry_sorted : (t : PlainTerm) → is_inner (type_of t) ≡ true → (n : List ℕ) → EachLine (LineIsDeclared state) (term_lines enums s t n) → IsSorted t n
  entry_sorted (Application op ts type) h n d = application_sorted (application_rendering op ts type) op ts type n (not_false op ts type h) d
  entry_sorted (NoneTerm type) h n d = (_, d.0, refl)
  entry_sorted (LiteralTerm (ExtensionLiteral x)) h n d = (_, d.0, refl)
  entry_sorted (LiteralTerm (EntityLiteral type id)) h n d = absurd (false≢true h)
  entry_sorted (LiteralTerm (BitVecLiteral w m)) h n d = absurd (false≢true h)
  entry_sorted (LiteralTerm (BoolLiteral b)) h n d = absurd (false≢true h)
  entry_sorted (LiteralTerm (StringLiteral x)) h n d = absurd (false≢true h)
  entry_sorted (RecordTerm x) h n d = absurd (false≢true h)
  entry_sorted (SetTerm t ts) h n d = absurd (false≢true h)
  entry_sorted (SomeTerm t) h n d = (_, d.0, refl)
  entry_sorted (VariableTerm id type) h n d = (_, d.1.0, refl)

  module _ (older : Names) (within : Within (among older) (entries state)) where
    -- a name that is known and not built in is among those before
    found : (n : List ℕ) (x : Entry) → is_in n built_in_names ≡ false → entries state n ≡ Some x → is_known older n ≡ true → look_up n older ≡ Some x
    found n x h e k =
        let p = there_if n older (sym (ap (λ b. b || is_in n (map (λ p. p.0) older)) h) ∙ k) in
        p.1 ∙ sym (within n p.0 p.1) ∙ e

    sort_found : (n : List ℕ) (x : Entry) → is_in n built_in_names ≡ false → look_up n older ≡ Some x → named_sort (look_up n older) n ≡ entry_sort x []
    sort_found n x h e =
        let p = or_parts (bytes_eq n (codes "true")) _ h in
        let q = or_parts (bytes_eq n (codes "false")) _ p.1 in
        cond-false (bytes_eq n (codes "true")) (Some bool_sort) (cond (bytes_eq n (codes "false")) (Some bool_sort) (look_up n older >>= λ y. entry_sort y [])) p.0
        ∙ cond-false (bytes_eq n (codes "false")) (Some bool_sort) (look_up n older >>= λ y. entry_sort y []) q.0
        ∙ ap (λ (o : Option Entry). o >>= λ y. entry_sort y []) e

    argument_sort : (t : PlainTerm) → is_inner (type_of t) ≡ true → IsSome (text_of s t) → (sorts : List ℕ → ℕ → Bool) → is_stated sorts (is_known older) (text_or_nothing (text_of s t)) ≡ true → sort_in (among older) (text_or_nothing (text_of s t)) ≡ Some (type_sort s (type_of t))
    argument_sort t h k sorts known =
        let p = has_name s t h k in
        let n : List ℕ = p.0 in
        let d = terms_are_declared enums s state t n fit p.1 in
        let x = entry_sorted t h n d.0 in
        let here : is_known older n ≡ true = subst (λ o. is_stated sorts (is_known older) (text_or_nothing o) ≡ true) p.2 known in
        let apart = free n x.0 x.1 in
        ap (λ o. sort_in (among older) (text_or_nothing o)) p.2 ∙ sort_found n x.0 apart (found n x.0 apart x.1 here) ∙ x.2

    -- ---- the two forms of selectors

    option_selects : (t : PlainTerm) (type : PlainType) → type_of t ≡ OptionType type → IsSome (text_of s t) → Known older (group (name (codes "val") ∷ text_or_nothing (text_of s t) ∷ [])) → selections (among older) (group (name (codes "val") ∷ text_or_nothing (text_of s t) ∷ [])) ≡ option_selection s type ∷ []
    option_selects t type e h known =
        let k = head_known older (codes "val") (text_or_nothing (text_of s t)) refl known.0 known.1 in
        let sorted = argument_sort t (ap is_inner e) h known.0 k.1 ∙ ap (λ u. Some (type_sort s u)) e in
        selects_one (among older) (codes "val") (text_or_nothing (text_of s t)) (option_sort (type_sort s type)) option_entry refl sorted
        (found (codes "val") option_entry refl fit.option_is_declared.1.2.1.0 k.0) (plain_selects (among older) (text_or_nothing (text_of s t)) (plain_text s t))

    -- the selectors of IP ranges are declared
    range_there : (o : ExtensionOp) → is_range_selector o ≡ true → TypeHasEntries s ip_type → entries state (selector_name o) ≡ Some (range_entry s o)
    range_there o r h =
        by o r (subst (λ n. LineIsDeclared state (DeclareDatatype n [] (kind_constructors IpAddrKind))) (ranges_named s counted called (name_of_type s ip_type) refl h)
        (types_are_declared enums s state ip_type (type_name s ip_type) fit (there enums s state fit ip_type (name_of_type s ip_type) refl h)).0.0)
      where
        by : (o : ExtensionOp) → is_range_selector o ≡ true → LineIsDeclared state (DeclareDatatype (codes "IPAddr") [] (kind_constructors IpAddrKind)) → entries state (selector_name o) ≡ Some (range_entry s o)
        by IpAddrV4Op r d = d.1.1.0
        by IpPrefixV4Op r d = d.1.1.1.0
        by IpAddrV6Op r d = d.1.2.1.0
        by IpPrefixV6Op r d = d.1.2.1.1.0
        by o r d = absurd (false≢true r)

    one_range : (o : ExtensionOp) → is_range_selector o ≡ true → (t : PlainTerm) → type_of t ≡ ip_type → IsSome (text_of s t) → shape (name (selector_name o)) (expressions (text_or_nothing (text_of s t) ∷ [])) ≡ Applied (selector_name o) → is_in (selector_name o) built_in_names ≡ false
        → Known older (group (name (selector_name o) ∷ text_or_nothing (text_of s t) ∷ [])) → selections (among older) (group (name (selector_name o) ∷ text_or_nothing (text_of s t) ∷ [])) ≡ selection_of (selector_name o) (type_sort s ip_type) (Some (range_entry s o)) ++ []
    one_range o r t e h a b known =
        let k = head_known older (selector_name o) (text_or_nothing (text_of s t)) a known.0 known.1 in
        let sorted = argument_sort t (ap is_inner e) h known.0 k.1 ∙ ap (λ u. Some (type_sort s u)) e in
        let p = has_name s t (ap is_inner e) h in
        let has : TypeHasEntries s ip_type = subst (TypeHasEntries s) e (terms_are_declared enums s state t p.0 fit p.1).2 in
        selects_one (among older) (selector_name o) (text_or_nothing (text_of s t)) (type_sort s ip_type) (range_entry s o) a sorted
        (found (selector_name o) (range_entry s o) b (range_there o r has) k.0) (plain_selects (among older) (text_or_nothing (text_of s t)) (plain_text s t))

    range_selects : (o : ExtensionOp) → is_range_selector o ≡ true → (t : PlainTerm) → type_of t ≡ (extension_signature o).0 → IsSome (text_of s t) → Known older (group (extension_op_head o ∷ text_or_nothing (text_of s t) ∷ [])) → selections (among older) (group (extension_op_head o ∷ text_or_nothing (text_of s t) ∷ [])) ≡ range_selection s o ∷ []
    range_selects IpAddrV4Op r t e h known = one_range IpAddrV4Op refl t e h refl refl known
    range_selects IpAddrV6Op r t e h known = one_range IpAddrV6Op refl t e h refl refl known
    range_selects IpPrefixV4Op r t e h known = one_range IpPrefixV4Op refl t e h refl refl known
    range_selects IpPrefixV6Op r t e h known = one_range IpPrefixV6Op refl t e h refl refl known
    range_selects o r t e h known = absurd (false≢true r)

    -- ---- applications

    extension_selects : (o : ExtensionOp) → is_range_selector o ≡ true → (ts : PlainTerms) (type : PlainType) → result_type (ExtOp o) (types_of ts) ≡ Some type → HaveTexts s ts → Known older (group (extension_op_head o ∷ texts_of s ts)) → selections (among older) (group (extension_op_head o ∷ texts_of s ts)) ≡ range_selection s o ∷ []
    extension_selects o r no_terms type h k known = absurd cc
    extension_selects o r (one_term t no_terms) type h k known =
        range_selects o r t (eq_same (type_of t) (extension_signature o).0 (chosen (type_eq (type_of t) (extension_signature o).0) (extension_signature o).1 type h).0) k.0 known
    extension_selects o r (one_term t (one_term u ts)) type h k known = absurd cc

    stands : (op : PlainOp) (ts : PlainTerms) (type : PlainType) → result_type op (types_of ts) ≡ Some type → HaveTexts s ts → Known older (application_body (application_head enums s op ts) op (texts_of s ts))
        → selections (among older) (application_body (application_head enums s op ts) op (texts_of s ts)) ≡ op_selections s op type
    stands OptionGetOp no_terms type h k known = absurd cc
    stands OptionGetOp (one_term t no_terms) type h k known = option_selects t type (opened (type_of t) type h) k.0 known
    stands OptionGetOp (one_term t (one_term u ts)) type h k known = absurd cc
    stands (ExtOp IpAddrV4Op) ts type h k known = extension_selects IpAddrV4Op refl ts type h k known
    stands (ExtOp IpAddrV6Op) ts type h k known = extension_selects IpAddrV6Op refl ts type h k known
    stands (ExtOp IpPrefixV4Op) ts type h k known = extension_selects IpPrefixV4Op refl ts type h k known
    stands (ExtOp IpPrefixV6Op) ts type h k known = extension_selects IpPrefixV6Op refl ts type h k known
    stands op ts type h k known = plain_selects (among older) (application_body (application_head enums s op ts) op (texts_of s ts)) (plain_application s counted called enums op ts refl)

    carried : (xs : List Selection) (a b : Expression) → a ≡ b → (Known older a → selections (among older) a ≡ xs) → Known older b → selections (among older) b ≡ xs
    carried xs a b e f = subst (λ c. Known older c → selections (among older) c ≡ xs) e f

    plainly : (a b : Expression) → a ≡ b → is_plain a ≡ true → selections (among older) b ≡ []
    plainly a b e h = ap (selections (among older)) (sym e) ∙ plain_selects (among older) a h

    application_selects : (m : Rendering) (op : PlainOp) (ts : PlainTerms) (type : PlainType) (n : List ℕ) → application_rendering op ts type ≡ m → (m ≡ AsFalse → ⊥) → result_type op (types_of ts) ≡ Some type → HaveTexts s ts → EachLine (LineIsDeclared state) (application_lines enums s m op ts type n)
        → (sort body : Expression) → entries state n ≡ Some (Defined sort body) → Known older body → selections (among older) body ≡ op_selections s op type
    application_selects AsApplication op ts type n e f h k d sort body is known =
        carried (op_selections s op type) (application_body (application_head enums s op ts) op (texts_of s ts)) body (same_body _ _ sort body (sym d.0 ∙ is)) (stands op ts type h k) known
    application_selects (AsEqualsIntMin w) op ts type n e f h k d sort body is known =
        plainly (least_body w (texts_of s ts)) body (same_body _ _ sort body (sym d.0 ∙ is)) (plain_least s counted called ts w) ∙ sym (least_selects s op ts type w e)
    application_selects AsFalse op ts type n e f h k d sort body is known = absurd (f refl)

    -- ---- terms

    entity_selects : (o : Option (List (List ℕ))) → o ≡ None → (type id n : List ℕ) → EachLine (LineIsDeclared state) (entity_literal_lines o (type_name s (EntityType type)) id n) → (sort body : Expression) → entries state n ≡ Some (Defined sort body) → selections (among older) body ≡ []
    entity_selects None e type id n d sort body is =
        plainly (entity_body (type_name s (EntityType type)) id) body (same_body _ _ sort body (sym d.0 ∙ is))
        (plain_group (type_name s (EntityType type)) (string_text id ∷ []) (type_apart s counted called (EntityType type) (name_of_type s (EntityType type)) refl) refl)
    entity_selects (Some ms) e type id n d sort body is = absurd cc

    pub body_selects : (t : PlainTerm) → IsSound s t → HasDefinition enums t → (n : List ℕ) → name_of_term s t ≡ Some n → (sort body : Expression) → entries state n ≡ Some (Defined sort body) → Known older body
        → selections (among older) body ≡ own_selections s t
    body_selects (Application op ts type) g f n named sort body is known =
        let d = terms_are_declared enums s state (Application op ts type) n fit named in
        let r = is_type-some (result_type op (types_of ts)) type (second_so (typed_all ts) (is_type (result_type op (types_of ts)) type) g.0) in
        application_selects (application_rendering op ts type) op ts type n refl f r d.1.0.0 d.0 sort body is known
    body_selects (NoneTerm type) g f n named sort body is known =
        let d = terms_are_declared enums s state (NoneTerm type) n fit named in
        plainly (none_body (type_sort s (OptionType type))) body (same_body _ _ sort body (sym d.0.0 ∙ is)) (plain_none (type_sort s (OptionType type)) (plain_sort s (OptionType type)))
    body_selects (LiteralTerm (EntityLiteral type id)) g f n named sort body is known =
        let d = terms_are_declared enums s state (LiteralTerm (EntityLiteral type id)) n fit named in
        entity_selects (members_of enums type) f type id n d.0 sort body is
    body_selects (LiteralTerm (ExtensionLiteral x)) g f n named sort body is known =
        let d = terms_are_declared enums s state (LiteralTerm (ExtensionLiteral x)) n fit named in
        plainly (extension_body x) body (same_body _ _ sort body (sym d.0.0 ∙ is)) (plain_extension x)
    body_selects (LiteralTerm (BitVecLiteral w m)) g f n named sort body is known = absurd f
    body_selects (LiteralTerm (BoolLiteral b)) g f n named sort body is known = absurd f
    body_selects (LiteralTerm (StringLiteral x)) g f n named sort body is known = absurd f
    body_selects (RecordTerm x) g f n named sort body is known =
        let d = terms_are_declared enums s state (RecordTerm x) n fit named in
        let m : List ℕ = type_name s (type_of (RecordTerm x)) in
        plainly (record_body (name m) (texts_of_fields s x)) body (same_body _ _ sort body (sym d.0.0 ∙ is))
        (plain_record m (texts_of_fields s x) (type_apart s counted called (type_of (RecordTerm x)) (name_of_type s (type_of (RecordTerm x))) refl) (plain_fields s x))
    body_selects (SetTerm t ts) g f n named sort body is known =
        let d = terms_are_declared enums s state (SetTerm t ts) n fit named in
        plainly (set_body (type_sort s (SetType t)) (texts_of s ts)) body (same_body _ _ sort body (sym d.0.0 ∙ is)) (plain_set (type_sort s (SetType t)) (texts_of s ts) (plain_sort s (SetType t)) (plain_texts s ts))
    body_selects (SomeTerm t) g f n named sort body is known =
        let d = terms_are_declared enums s state (SomeTerm t) n fit named in
        plainly (some_body (text_or_nothing (text_of s t))) body (same_body _ _ sort body (sym d.0.0 ∙ is)) (plain_some (text_or_nothing (text_of s t)) (plain_text s t))
    body_selects (VariableTerm id type) g f n named sort body is known = absurd f
