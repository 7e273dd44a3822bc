-- Expressions without a head that may be left open apply no selector that is.
use Rattle.std.proofs.Common.{◌≡◌, ℕ, Bool, true, false, not, ◌&&◌, cond, List, [], ◌∷◌, ◌++◌, refl, ap, ap₂, ◌∙◌, Option, Some, None}
use Rattle.std.specs.Prelude.{codes, bytes_eq, take, drop, map}
use Rattle.std.proofs.lemmas.Bool.{and_parts, and_from, or_parts, not-true}
use Rattle.law_numbers.specs.BitVectors.{bits_of}
use Rattle.law_terms.specs.Plain.{PlainType, OptionType, BitVecType, BoolType, EntityType, ExtensionType, StringType, RecordType, SetType, PatternPart, Character, Wildcard, PlainExtension, DecimalOf, Ipv4Of, Ipv6Of, DatetimeOf, DurationOf, BitVecLiteral, BoolLiteral, EntityLiteral, ExtensionLiteral, StringLiteral, PlainTerm, Application, NoneTerm, LiteralTerm, RecordTerm, SetTerm, SomeTerm, VariableTerm, PlainTerms, no_terms, one_term, PlainFields, no_fields, one_field}
use Rattle.law_texts.specs.Lexicon.{Number, Name, is_digit, some_all, number_in}
use Rattle.law_texts.specs.Reading.{Expression, Leaf, Node, Expressions, Nil, Cons, expressions}
use Rattle.law_scripts.specs.Script.{Entry, Constant, Function, Defined, Builds, Selects, BitLiteral, Applied, Extended, Tested, Unformed, name, group, is_in, bit_literal, qualified, matched_by, matched, indexed, insertion, shape, pattern}
use Rattle.law_scripts.specs.Sorts.{Entries}
use Rattle.law_scripts.specs.Value.{OpenSelector, ValueOfSort, TableOfSelector, open_selector, Selection, range_selectors, selection_if, selection, shape_selection, first_sort, selections, each_selections}
use Rattle.law_scripts.specs.WrittenStrings.{part_expr, pattern_expr}
use Rattle.law_lines.specs.LineForms.{prefix_body, extension_body, with_pattern, none_body, empty_set, set_body, record_body, some_body}
use Rattle.law_lines.specs.Lines.{bits}
use Rattle.law_lines.specs.NameTables.{Tables, name_of_term}
use Rattle.law_lines.specs.Naming.{type_sort}
use Rattle.law_lines.specs.Entries.{text_or_nothing, texts_of, texts_of_fields}
use Rattle.law_lines.specs.TermTexts.{named_text, text_of}

-- the selectors that may be left open
abbrev pub open_selectors : List (List ℕ)
open_selectors = codes "val" ∷ range_selectors

abbrev pub is_plain_head : Expression → Bool
is_plain_head (Leaf (Name f)) = not (is_in f open_selectors)
is_plain_head e = true

-- no head is one of them
abbrev mutual
  pub is_plain : Expression → Bool
  is_plain (Leaf a) = true
  is_plain (Node Nil) = true
  is_plain (Node (Cons e es)) = is_plain_head e && each_plain es

  pub each_plain : Expressions → Bool
  each_plain Nil = true
  each_plain (Cons e es) = is_plain e && each_plain es

never : (a : Bool) (o : OpenSelector) → cond (a && false) (Some o) None ≡ None
never true o = refl
never false o = refl

-- no other selector is left open
closed : (f d : List ℕ) (ps : List (List ℕ)) → is_in f open_selectors ≡ false → open_selector f d ps ≡ None
closed f d [] h =
    ap (λ (b : Bool). cond (bytes_eq d (codes "IPAddr") && b) (Some TableOfSelector) None) (or_parts (bytes_eq f (codes "val")) (is_in f range_selectors) h).1 ∙ never (bytes_eq d (codes "IPAddr")) TableOfSelector
closed f d (p ∷ ps) h =
    ap (λ (b : Bool). cond (bytes_eq d (codes "Option") && b) (Some ValueOfSort) None) (or_parts (bytes_eq f (codes "val")) (is_in f range_selectors) h).0 ∙ never (bytes_eq d (codes "Option")) ValueOfSort

module _ (here : Entries) where
  bits_select : (es : Expressions) (sort : Option Expression) → shape_selection here (bit_literal es) sort ≡ []
  bits_select (Cons (Leaf (Name n)) (Cons (Leaf (Number w)) Nil)) sort = by (bytes_eq (take 2 n) (codes "bv") && some_all is_digit (drop 2 n))
    where
      by : (b : Bool) → shape_selection here (cond b (BitLiteral w (number_in 10 (drop 2 n))) Unformed) sort ≡ []
      by true = refl
      by false = refl
  bits_select es sort = refl

  qualified_selects : (es : Expressions) (sort : Option Expression) → shape_selection here (qualified es) sort ≡ []
  qualified_selects (Cons (Leaf (Name c)) (Cons s Nil)) sort = refl
  qualified_selects es sort = refl

  matched_selects : (es : Expressions) (sort : Option Expression) → shape_selection here (matched es) sort ≡ []
  matched_selects (Cons e (Cons r Nil)) sort = by (pattern r)
    where
      by : (o : Option (List PatternPart)) → shape_selection here (matched_by o) sort ≡ []
      by (Some p) = refl
      by None = refl
  matched_selects es sort = refl

  indexed_selects : (es : Expressions) (sort : Option Expression) → shape_selection here (indexed es) sort ≡ []
  indexed_selects (Cons (Leaf (Name f)) (Cons (Leaf (Number k)) Nil)) sort = by (bytes_eq f (codes "zero_extend"))
    where
      by : (b : Bool) → shape_selection here (cond b (Extended k) Unformed) sort ≡ []
      by true = refl
      by false = refl
  indexed_selects (Cons (Leaf (Name f)) (Cons (Leaf (Name c)) Nil)) sort = by (bytes_eq f (codes "is"))
    where
      by : (b : Bool) → shape_selection here (cond b (Tested c) Unformed) sort ≡ []
      by true = refl
      by false = refl
  indexed_selects es sort = refl

  other_selects : (f : List ℕ) → is_in f open_selectors ≡ false → (sort : Option Expression) (x : Option Entry) → here f ≡ x → selection f sort x ≡ []
  other_selects f h None x e = refl
  other_selects f h (Some sort) None e = refl
  other_selects f h (Some sort) (Some (Constant s)) e = refl
  other_selects f h (Some sort) (Some (Function a s)) e = refl
  other_selects f h (Some sort) (Some (Defined s b)) e = refl
  other_selects f h (Some sort) (Some (Builds d ps place fields)) e = refl
  other_selects f h (Some sort) (Some (Selects d ps c place field)) e =
      ap (λ (o : Option OpenSelector). selection_if o (record { selector = f; entry = Selects d ps c place field; sort = sort })) (closed f d ps h)

  inserts : (es : Expressions) (sort : Option Expression) → shape_selection here (insertion es) sort ≡ []
  inserts Nil sort = refl
  inserts (Cons e es) sort = other_selects (codes "set.insert") refl sort (here (codes "set.insert")) refl

  head_selects : (f : List ℕ) → is_in f open_selectors ≡ false → (e : Expression) (es : Expressions) (sort : Option Expression) → shape_selection here (shape (Leaf (Name f)) (Cons e es)) sort ≡ []
  head_selects f h e es sort = by (bytes_eq f (codes "_")) (bytes_eq f (codes "as")) (bytes_eq f (codes "str.in_re")) (bytes_eq f (codes "set.insert"))
    where
      by : (a b c d : Bool) → shape_selection here (cond a (bit_literal (Cons e es)) (cond b (qualified (Cons e es)) (cond c (matched (Cons e es)) (cond d (insertion es) (Applied f))))) sort ≡ []
      by true b c d = bits_select (Cons e es) sort
      by false true c d = qualified_selects (Cons e es) sort
      by false false true d = matched_selects (Cons e es) sort
      by false false false true = inserts es sort
      by false false false false = other_selects f h sort (here f) refl

  plain_head_selects : (e : Expression) → is_plain_head e ≡ true → (es : Expressions) (sort : Option Expression) → shape_selection here (shape e es) sort ≡ []
  plain_head_selects (Leaf (Name f)) h Nil sort = refl
  plain_head_selects (Leaf (Name f)) h (Cons e es) sort = head_selects f (not-true (is_in f open_selectors) h) e es sort
  plain_head_selects (Node (Cons (Leaf (Name f)) fs)) h Nil sort = refl
  plain_head_selects (Node (Cons (Leaf (Name f)) fs)) h (Cons e es) sort = by (bytes_eq f (codes "_"))
    where
      by : (b : Bool) → shape_selection here (cond b (indexed fs) Unformed) sort ≡ []
      by true = indexed_selects fs sort
      by false = refl
  plain_head_selects e h Nil sort = refl
  plain_head_selects e h (Cons d es) sort = refl

  mutual
    pub plain_selects : (e : Expression) → is_plain e ≡ true → selections here e ≡ []
    plain_selects (Leaf a) h = refl
    plain_selects (Node Nil) h = refl
    plain_selects (Node (Cons e es)) h =
        let p = and_parts (is_plain_head e) (each_plain es) h in
        ap₂ (λ (xs ys : List Selection). xs ++ ys) (plain_head_selects e p.0 es (first_sort here es)) (plain_each es p.1)

    pub plain_each : (es : Expressions) → each_plain es ≡ true → each_selections here es ≡ []
    plain_each Nil h = refl
    plain_each (Cons e es) h =
        let p = and_parts (is_plain e) (each_plain es) h in
        ap₂ (λ (xs ys : List Selection). xs ++ ys) (plain_selects e p.0) (plain_each es p.1)

-- ---- the expressions that are written

pub plain_append : (es fs : List Expression) → each_plain (expressions es) ≡ true → each_plain (expressions fs) ≡ true → each_plain (expressions (es ++ fs)) ≡ true
plain_append [] fs h k = k
plain_append (e ∷ es) fs h k =
    let p = and_parts (is_plain e) (each_plain (expressions es)) h in
    and_from (is_plain e) (each_plain (expressions (es ++ fs))) p.0 (plain_append es fs p.1 k)

plain_two : (e f : Expression) → is_plain e ≡ true → is_plain f ≡ true → each_plain (expressions (e ∷ f ∷ [])) ≡ true
plain_two e f h k = and_from (is_plain e) (is_plain f && true) h (and_from (is_plain f) true k refl)

plain_alone : (e : Expression) → is_plain e ≡ true → each_plain (expressions (e ∷ [])) ≡ true
plain_alone e h = and_from (is_plain e) true h refl

pub plain_sort : (s : Tables) (t : PlainType) → is_plain (type_sort s t) ≡ true
plain_sort s (OptionType t) = plain_alone (type_sort s t) (plain_sort s t)
plain_sort s (BitVecType w) = refl
plain_sort s BoolType = refl
plain_sort s (EntityType type) = refl
plain_sort s (ExtensionType kind) = refl
plain_sort s StringType = refl
plain_sort s (RecordType x) = refl
plain_sort s (SetType t) = plain_alone (type_sort s t) (plain_sort s t)

plain_name : (o : Option (List ℕ)) → is_plain (text_or_nothing (named_text o)) ≡ true
plain_name (Some n) = refl
plain_name None = refl

-- what stands for a term
pub plain_text : (s : Tables) (t : PlainTerm) → is_plain (text_or_nothing (text_of s t)) ≡ true
plain_text s (LiteralTerm (BitVecLiteral w n)) = refl
plain_text s (LiteralTerm (BoolLiteral b)) = refl
plain_text s (LiteralTerm (StringLiteral x)) = refl
plain_text s (LiteralTerm (EntityLiteral type id)) = plain_name (name_of_term s (LiteralTerm (EntityLiteral type id)))
plain_text s (LiteralTerm (ExtensionLiteral x)) = plain_name (name_of_term s (LiteralTerm (ExtensionLiteral x)))
plain_text s (Application op ts type) = plain_name (name_of_term s (Application op ts type))
plain_text s (NoneTerm type) = plain_name (name_of_term s (NoneTerm type))
plain_text s (RecordTerm x) = plain_name (name_of_term s (RecordTerm x))
plain_text s (SetTerm t ts) = plain_name (name_of_term s (SetTerm t ts))
plain_text s (SomeTerm t) = plain_name (name_of_term s (SomeTerm t))
plain_text s (VariableTerm id type) = plain_name (name_of_term s (VariableTerm id type))

pub plain_texts : (s : Tables) (ts : PlainTerms) → each_plain (expressions (texts_of s ts)) ≡ true
plain_texts s no_terms = refl
plain_texts s (one_term t ts) = and_from (is_plain (text_or_nothing (text_of s t))) (each_plain (expressions (texts_of s ts))) (plain_text s t) (plain_texts s ts)

pub plain_fields : (s : Tables) (x : PlainFields) → each_plain (expressions (texts_of_fields s x)) ≡ true
plain_fields s no_fields = refl
plain_fields s (one_field a t x) = and_from (is_plain (text_or_nothing (text_of s t))) (each_plain (expressions (texts_of_fields s x))) (plain_text s t) (plain_fields s x)

-- ---- patterns

plain_part : (p : PatternPart) → is_plain (part_expr p) ≡ true
plain_part (Character c) = refl
plain_part Wildcard = refl

plain_parts : (ps : List PatternPart) → each_plain (expressions (map part_expr ps)) ≡ true
plain_parts [] = refl
plain_parts (p ∷ ps) = and_from (is_plain (part_expr p)) (each_plain (expressions (map part_expr ps))) (plain_part p) (plain_parts ps)

plain_pattern : (ps : List PatternPart) → is_plain (pattern_expr ps) ≡ true
plain_pattern [] = refl
plain_pattern (p ∷ []) = plain_part p
plain_pattern (p ∷ q ∷ ps) =
    and_from (is_plain (part_expr p)) _ (plain_part p) (and_from (is_plain (part_expr q)) (each_plain (expressions (map part_expr ps))) (plain_part q) (plain_parts ps))

pub plain_with_pattern : (p : List PatternPart) (es : List Expression) → each_plain (expressions es) ≡ true → each_plain (expressions (with_pattern p es)) ≡ true
plain_with_pattern p [] h = plain_two (name []) (pattern_expr p) refl (plain_pattern p)
plain_with_pattern p (e ∷ es) h =
    let q = and_parts (is_plain e) (each_plain (expressions es)) h in
    and_from (is_plain e) (each_plain (expressions (es ++ pattern_expr p ∷ []))) q.0 (plain_append es (pattern_expr p ∷ []) q.1 (plain_alone (pattern_expr p) (plain_pattern p)))

-- ---- literals

plain_prefix : (w : ℕ) (o : Option ℕ) → is_plain (prefix_body w o) ≡ true
plain_prefix w (Some p) = refl
plain_prefix w None = refl

pub plain_extension : (x : PlainExtension) → is_plain (extension_body x) ≡ true
plain_extension (DecimalOf z) = plain_alone (bits 64 (bits_of 64 z)) refl
plain_extension (Ipv4Of a p) = plain_two (bits 32 a) (prefix_body 5 p) refl (plain_prefix 5 p)
plain_extension (Ipv6Of a p) = plain_two (bits 128 a) (prefix_body 7 p) refl (plain_prefix 7 p)
plain_extension (DatetimeOf z) = plain_alone (bits 64 (bits_of 64 z)) refl
plain_extension (DurationOf z) = plain_alone (bits 64 (bits_of 64 z)) refl

-- ---- constructors and sets

pub plain_none : (sort : Expression) → is_plain sort ≡ true → is_plain (none_body sort) ≡ true
plain_none sort h = plain_two (name (codes "none")) sort refl h

pub plain_some : (e : Expression) → is_plain e ≡ true → is_plain (some_body e) ≡ true
plain_some e h = plain_alone e h

pub plain_set : (sort : Expression) (es : List Expression) → is_plain sort ≡ true → each_plain (expressions es) ≡ true → is_plain (set_body sort es) ≡ true
plain_set sort [] h k = plain_two (name (codes "set.empty")) sort refl h
plain_set sort (e ∷ es) h k =
    let p = and_parts (is_plain e) (each_plain (expressions es)) k in
    let q : is_plain (empty_set sort) ≡ true = plain_two (name (codes "set.empty")) sort refl h in
    and_from (is_plain e) (each_plain (expressions (es ++ empty_set sort ∷ []))) p.0 (plain_append es (empty_set sort ∷ []) p.1 (plain_alone (empty_set sort) q))

-- a group under a name
pub plain_group : (f : List ℕ) (es : List Expression) → is_in f open_selectors ≡ false → each_plain (expressions es) ≡ true → is_plain (group (name f ∷ es)) ≡ true
plain_group f es h k = and_from (not (is_in f open_selectors)) (each_plain (expressions es)) (ap not h) k

pub plain_record : (n : List ℕ) (es : List Expression) → is_in n open_selectors ≡ false → each_plain (expressions es) ≡ true → is_plain (record_body (name n) es) ≡ true
plain_record n [] h k = refl
plain_record n (e ∷ es) h k = plain_group n (e ∷ es) h k
