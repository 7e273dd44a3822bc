-- Values of a type's sort are carried values.
use Rattle.std.proofs.Common.{◌≡◌, ℕ, zero, suc, ◌+◌, ◌-◌, ◌*◌, ◌^◌, ◌<◌, ◌≤◌, Bool, true, false, cond, ◌&&◌, ◌||◌, length, List, [], ◌∷◌, map, refl, sym, ap, ◌∙◌, subst, arith, inl, inr}
use Rattle.std.specs.Prelude.{◌⊎◌, codes, bytes_eq, nat_lt, ◌==◌, ℤ, pos, negsuc, Option, Some, None, IfSome, unwrap_or}
use Rattle.std.specs.Str.{chars}
use Rattle.std.specs.List.{AllByRecursion, list_all, list_any}
use Rattle.std.specs.Cmp.{first_so, second_so}
use Rattle.std.specs.Cmp.Derive.{both_true}
use Rattle.std.specs.declared.cmp.Ordering.TheVariants.{Less, Equal}
use Rattle.std.proofs.lemmas.Bool.{leb-true, leb-false, ltb-true, eqb-true}
use Rattle.std.proofs.lemmas.Slice.Eq.{bytes_eq-Decides}
use Rattle.law_terms.specs.Plain.{ExtensionKind, IpAddrKind, DecimalKind, DatetimeKind, DurationKind, PlainType, OptionType, BitVecType, BoolType, EntityType, ExtensionType, StringType, RecordType, SetType, AttributeTypes, no_attributes, attribute, PlainExtension, DecimalOf, DatetimeOf, DurationOf}
use Rattle.law_terms.specs.Values.{Value, EntityValue, Values, no_values, one_value}
use Rattle.law_scripts.specs.ScriptValues.{ScriptValue, TruthOf, BitsOf, TextOf, ConstructorOf, SetOf, ScriptValues, no_script_values, one_script_value}
use Rattle.law_terms.specs.TypeValues.{is_code_point, greatest_code_point, IsValue, AreFieldValues, IsExtension, IsId, IsLong, IsPrefix, AreCodePoints, Enums, members_of, AreEnums, AreAscending}
use Rattle.law_terms.specs.ValueOrder.{list_of_values, text_cmp, value_cmp, ascends, is_below}
use Rattle.law_terms.proofs.ValueOrder.{text_itself, bytes_itself}
use Rattle.law_numbers.specs.BitVectors.{is_negative, bits_of, signed}
use Rattle.law_numbers.specs.Widths.{is_width, are_bits}
use Rattle.law_numbers.proofs.TwosComplement.{signed_has_its_bits}
use Rattle.law_texts.specs.Lexicon.{Name, Number}
use Rattle.law_scripts.specs.ScriptOrder as script
use Rattle.law_scripts.specs.ScriptOrder.{order}
use Rattle.law_texts.specs.Reading.{Expression, Leaf, Node, Expressions, Nil, Cons}
use Rattle.law_scripts.specs.Script.{Entry, Builds, name}
use Rattle.law_texts.specs.Options.{◌>>=◌}
use Rattle.law_scripts.specs.Sorts.{Entries, string_sort, bit_sort, same_sort, listed_sorts, paired, instance, fields_at, constructor_fields, has_sort_in, have_sorts_in, all_have_sort_in, option_sort}
use Rattle.law_lines.specs.Entries.{attribute_sorts}
use Rattle.law_lines.specs.EntryNames.{place_of, member_name}
use Rattle.law_lines.specs.NameTables.{Tables}
use Rattle.law_lines.specs.Naming.{type_name, type_sort}
use Rattle.law_theorem.specs.Carry.{alone, text_at, carry_prefix, carry_extension, carry_entity, carry, carry_values, carry_fields, back_prefix, back_extension, back_entity, back, back_values, back_fields}
use Rattle.law_theorem.specs.CarriedSorts.{shown_members, shown_entity, shown_kind, shown_option, IsNoDatatype, DeclaresOption, IsNamed, TypeIsDeclared, AttributesAreDeclared}
use Rattle.std.specs.Ordering.{is_lt}
use Rattle.law_theorem.proofs.Members.{members_found, ascends_chars, behind}
use Rattle.law_theorem.proofs.Ordered.{keeps, one_to_one}
use Rattle.law_theorem.proofs.Sorted.{fields_themselves, sorted_value}
use mathlib.Core.Logic.{⊎_elim}
use Rattle.law_scripts.specs.DeclarationLines.{Constructors, at_place}

-- ---- what a constructor's value shows

record Built (here : Entries) (sort : Expression) (place : ℕ) (c : List ℕ) (vs : ScriptValues) : Type 0 where
  pub datatype : List ℕ
  pub parameters : List (List ℕ)
  pub fields : List Expression
  pub sorts : List Expression
  pub entry : here c ≡ Some (Builds datatype parameters place fields)
  pub at_sort : fields_at datatype parameters fields sort ≡ Some sorts
  pub typed : have_sorts_in here sorts vs ≡ true

taken : (A : Type 0) (x y : A) → Some x ≡ Some y → x ≡ y
taken A x y e = ap (λ o. unwrap_or o x) e

module _ (here : Entries) (sort : Expression) (place : ℕ) (c : List ℕ) (vs : ScriptValues) where
  from : Option (List Expression) → Bool
  from o = elim o [ Some fs ↦ have_sorts_in here fs vs | None ↦ false ]

  by_fields : (d : List ℕ) (ps : List (List ℕ)) (fields : List Expression) (o : Option (List Expression)) → here c ≡ Some (Builds d ps place fields) → fields_at d ps fields sort ≡ o
      → (elim o as (λ o'. Bool) [ Some fs ↦ have_sorts_in here fs vs | None ↦ false ]) ≡ true → Built here sort place c vs
  by_fields d ps fields (Some fs) e f h = record { datatype = d; parameters = ps; fields = fields; sorts = fs; entry = e; at_sort = f; typed = h }
  by_fields d ps fields None e f h = absurd cc

  by_place : (d : List ℕ) (ps : List (List ℕ)) (p : ℕ) (fields : List Expression) (b : Bool) → here c ≡ Some (Builds d ps p fields) → (p == place) ≡ b
      → (elim (cond b (fields_at d ps fields sort) None) as (λ o'. Bool) [ Some fs ↦ have_sorts_in here fs vs | None ↦ false ]) ≡ true → Built here sort place c vs
  by_place d ps p fields true e f h = by_fields d ps fields (fields_at d ps fields sort) (e ∙ ap (λ q. Some (Builds d ps q fields)) (eqb-true p place f)) refl h
  by_place d ps p fields false e f h = absurd cc

  by_entry : (x : Option Entry) → here c ≡ x → (elim (constructor_fields x place sort) as (λ o'. Bool) [ Some fs ↦ have_sorts_in here fs vs | None ↦ false ]) ≡ true → Built here sort place c vs
  by_entry (Some (Builds d ps p fields)) e h = by_place d ps p fields (p == place) e refl h
  by_entry x e h = absurd cc

  unbuilt : has_sort_in here sort (ConstructorOf place c vs) ≡ true → Built here sort place c vs
  unbuilt h = by_entry (here c) refl h

-- the datatype of a sort is its head
name_at : (d n : List ℕ) (ps : List (List ℕ)) (fields fs : List Expression) → fields_at d ps fields (name n) ≡ Some fs → (d ≡ n) × (fs ≡ map (instance (paired ps [])) fields)
name_at d n ps fields fs h = by (bytes_eq d n) refl h
  where
    count_at : (b : Bool) → cond b (Some (map (instance (paired ps [])) fields)) None ≡ Some fs → fs ≡ map (instance (paired ps [])) fields
    count_at true e = sym (taken (List Expression) (map (instance (paired ps [])) fields) fs e)
    count_at false e = cc

    by : (b : Bool) → bytes_eq d n ≡ b → (cond b (Some []) None >>= λ (es : List Expression). cond (length es == length ps) (Some (map (instance (paired ps es)) fields)) None) ≡ Some fs → (d ≡ n) × (fs ≡ map (instance (paired ps [])) fields)
    by true e g = ((bytes_eq-Decides d n).0 e, count_at (0 == length ps) g)
    by false e g = absurd cc

group_at : (d m : List ℕ) (s : Expression) (es : Expressions) (ps : List (List ℕ)) (fields fs : List Expression) → fields_at d ps fields (Node (Cons (Leaf (Name m)) (Cons s es))) ≡ Some fs → d ≡ m
group_at d m s es ps fields fs h = by (bytes_eq d m) refl h
  where
    by : (b : Bool) → bytes_eq d m ≡ b → (cond b (Some (s ∷ listed_sorts es)) None >>= λ (xs : List Expression). cond (length xs == length ps) (Some (map (instance (paired ps xs)) fields)) None) ≡ Some fs → d ≡ m
    by true e g = (bytes_eq-Decides d m).0 e
    by false e g = absurd cc

-- no constructor has a sort that is built in
not_named : (here : Entries) (n : List ℕ) (place : ℕ) (c : List ℕ) (vs : ScriptValues) → IsNoDatatype here n → has_sort_in here (name n) (ConstructorOf place c vs) ≡ true → ⊥
not_named here n place c vs none_such h =
    let b : Built here (name n) place c vs = unbuilt here (name n) place c vs h in
    none_such c b.parameters place b.fields (b.entry ∙ ap (λ d. Some (Builds d b.parameters place b.fields)) (name_at b.datatype n b.parameters b.fields b.sorts b.at_sort).0)

not_grouped : (here : Entries) (m : List ℕ) (s : Expression) (es : Expressions) (place : ℕ) (c : List ℕ) (vs : ScriptValues) → IsNoDatatype here m → has_sort_in here (Node (Cons (Leaf (Name m)) (Cons s es))) (ConstructorOf place c vs) ≡ true → ⊥
not_grouped here m s es place c vs none_such h =
    let b : Built here (Node (Cons (Leaf (Name m)) (Cons s es))) place c vs = unbuilt here (Node (Cons (Leaf (Name m)) (Cons s es))) place c vs h in
    none_such c b.parameters place b.fields (b.entry ∙ ap (λ d. Some (Builds d b.parameters place b.fields)) (group_at b.datatype m s es b.parameters b.fields b.sorts b.at_sort))

record Fielded (here : Entries) (cs : Constructors) (place : ℕ) (c : List ℕ) (vs : ScriptValues) : Type 0 where
  pub fields : List Expression
  pub stands : at_place cs place ≡ Some (c, fields)
  pub typed : have_sorts_in here fields vs ≡ true

named_fields : (here : Entries) (n : List ℕ) (cs : Constructors) (place : ℕ) (c : List ℕ) (vs : ScriptValues) → IsNamed here n cs → has_sort_in here (name n) (ConstructorOf place c vs) ≡ true → Fielded here cs place c vs
named_fields here n cs place c vs x h =
    let b : Built here (name n) place c vs = unbuilt here (name n) place c vs h in
    let e : (b.datatype ≡ n) × (b.sorts ≡ map (instance (paired b.parameters [])) b.fields) = name_at b.datatype n b.parameters b.fields b.sorts b.at_sort in
    let o : (b.parameters ≡ []) × (at_place cs place ≡ Some (c, b.fields)) = x.datatype.only place c b.fields b.parameters (b.entry ∙ ap (λ d. Some (Builds d b.parameters place b.fields)) e.0) in
    record {
      fields = b.fields;
      stands = o.1;
      typed = subst (λ fs. have_sorts_in here fs vs ≡ true) (e.1 ∙ (ap (λ ps. map (instance (paired ps [])) b.fields) o.0 ∙ fields_themselves b.fields)) b.typed;
    }

pair_taken : (m c : List ℕ) (fs gs : List Expression) → ◌≡◌ {A = Option (List ℕ × List Expression)} (Some (m, fs)) (Some (c, gs)) → (c ≡ m) × (gs ≡ fs)
pair_taken m c fs gs e =
    let a : List ℕ × List Expression = (m, fs) in let b : List ℕ × List Expression = (c, gs) in
    let p : a ≡ b = taken (List ℕ × List Expression) a b e in
    (sym (ap (λ (r : List ℕ × List Expression). r.0) p), sym (ap (λ (r : List ℕ × List Expression). r.1) p))

-- the constructor of a datatype that has one
the_only : (n : List ℕ) (fs : List Expression) (place : ℕ) (c : List ℕ) (fields : List Expression) → at_place ((n, fs) ∷ []) place ≡ Some (c, fields) → (place ≡ 0) × (c ≡ n) × (fields ≡ fs)
the_only n fs zero c fields e = let p : (c ≡ n) × (fields ≡ fs) = pair_taken n c fs fields e in (refl, p.0, p.1)
the_only n fs (suc p) c fields e = absurd cc

abbrev OptionPlace : Expression → ℕ → List ℕ → List Expression → Type 0
OptionPlace sort place c fs = ((place ≡ 0) × (c ≡ codes "none") × (fs ≡ [])) ⊎ ((place ≡ 1) × (c ≡ codes "some") × (fs ≡ sort ∷ []))

option_place : (sort : Expression) (place : ℕ) (c : List ℕ) (fields : List Expression) → at_place shown_option place ≡ Some (c, fields) → OptionPlace sort place c (map (instance ((codes "X", sort) ∷ [])) fields)
option_place sort zero c fields e = let p : (c ≡ codes "none") × (fields ≡ []) = pair_taken (codes "none") c [] fields e in inl (refl, p.0, ap (map (instance ((codes "X", sort) ∷ []))) p.1)
option_place sort (suc zero) c fields e = let p : (c ≡ codes "some") × (fields ≡ (name (codes "X") ∷ [])) = pair_taken (codes "some") c (name (codes "X") ∷ []) fields e in inr (refl, p.0, ap (map (instance ((codes "X", sort) ∷ []))) p.1)
option_place sort (suc (suc p)) c fields e = absurd cc

no_more : (here : Entries) (vs : ScriptValues) → have_sorts_in here [] vs ≡ true → vs ≡ no_script_values
no_more here no_script_values h = refl
no_more here (one_script_value v vs) h = absurd cc

code_points : (s : List ℕ) → list_all is_code_point s ≡ true → AreCodePoints s
code_points [] h = tt
code_points (c ∷ s) h = (leb-true c greatest_code_point (first_so (is_code_point c) (list_all is_code_point s) h), code_points s (second_so (is_code_point c) (list_all is_code_point s) h))

below_width : (w a : ℕ) → are_bits w a ≡ true → a < 2 ^ w
below_width w a h = ltb-true a (2 ^ w) (second_so (is_width w) (nat_lt a (2 ^ w)) h)

signed_long : (a : ℕ) → a < 2 ^ 64 → IsLong (signed 64 a)
signed_long a h = by (is_negative 64 a) refl
  where
    by : (b : Bool) → is_negative 64 a ≡ b → IsLong (cond b (negsuc (2 ^ 64 - 1 - a)) (pos a))
    by true e = let l : 2 ^ 64 ≤ 2 * a = leb-true (2 ^ 64) (2 * a) e in record { sfits = omega arith }
    by false e = let l : 2 * a < 2 ^ 64 = leb-false (2 ^ 64) (2 * a) e in record { sfits = omega arith }

-- ---- members by their places

member_placed : (n : List ℕ) (start : ℕ) (ms : List (List ℕ)) (place : ℕ) (c : List ℕ) (fields : List Expression) → at_place (shown_members n start ms) place ≡ Some (c, fields)
    → (place < length ms) × (c ≡ member_name n (start + place)) × (fields ≡ [])
member_placed n start [] place c fields e = absurd cc
member_placed n start (m ∷ ms) zero c fields e =
    let p : (c ≡ member_name n start) × (fields ≡ []) = pair_taken (member_name n start) c [] fields e in
    (omega arith, p.0 ∙ ap (member_name n) (let q : start ≡ start + 0 = omega arith in q), p.1)
member_placed n start (m ∷ ms) (suc p) c fields e =
    let r : (p < length ms) × (c ≡ member_name n (suc start + p)) × (fields ≡ []) = member_placed n (suc start) ms p c fields e in
    let l : p < length ms = r.0 in
    (omega arith, r.1 ∙ ap (member_name n) (let q : suc start + p ≡ start + suc p = omega arith in q), r.2)

text_in : (ms : List (List ℕ)) (place : ℕ) → place < length ms → list_any (λ m. bytes_eq m (text_at ms place)) ms ≡ true
text_in [] place l = absurd (omega arith)
text_in (m ∷ ms) zero l = ap (λ b. b || list_any (λ x. bytes_eq x m) ms) (bytes_itself m)
text_in (m ∷ ms) (suc p) l = by (bytes_eq m (text_at ms p)) (text_in ms p (omega arith))
  where
    by : (b : Bool) → list_any (λ x. bytes_eq x (text_at ms p)) ms ≡ true → (b || list_any (λ x. bytes_eq x (text_at ms p)) ms) ≡ true
    by true h = refl
    by false h = h

place_found : (ms : List (List ℕ)) (place : ℕ) → ascends text_cmp ms ≡ true → place < length ms → place_of (text_at ms place) ms ≡ place
place_found [] place h l = absurd (omega arith)
place_found (m ∷ ms) zero h l = ap (λ b. cond b 0 (suc (place_of m ms))) (bytes_itself m)
place_found (m ∷ ms) (suc p) h l =
    ap (λ b. cond b 0 (suc (place_of (text_at ms p) ms))) (differs (bytes_eq (text_at ms p) m) refl)
    ∙ ap suc (place_found ms p (second_so (is_below text_cmp m ms) (ascends text_cmp ms) h) (omega arith))
  where
    less : text_cmp m (text_at ms p) ≡ Less
    less = behind m ms (text_at ms p) (first_so (is_below text_cmp m ms) (ascends text_cmp ms) h) (second_so (is_below text_cmp m ms) (ascends text_cmp ms) h) (text_in ms p (omega arith))

    differs : (b : Bool) → bytes_eq (text_at ms p) m ≡ b → bytes_eq (text_at ms p) m ≡ false
    differs false e = e
    differs true e =
        let q : text_at ms p ≡ m = (bytes_eq-Decides (text_at ms p) m).0 e in
        let z : Less ≡ Equal = sym less ∙ (ap (text_cmp m) q ∙ text_itself m) in absurd cc

text_chars : (ms : List (List ℕ)) (place : ℕ) → place < length ms → text_at (map chars ms) place ≡ chars (text_at ms place)
text_chars [] place l = absurd (omega arith)
text_chars (m ∷ ms) zero l = refl
text_chars (m ∷ ms) (suc p) l = text_chars ms p (omega arith)

length_chars : (ms : List (List ℕ)) → length (map chars ms) ≡ length ms
length_chars [] = refl
length_chars (m ∷ ms) = ap suc (length_chars ms)

back_any : (i : List ℕ) (ms : List (List ℕ)) → list_any (λ m. bytes_eq m i) (map chars ms) ≡ true → list_any (λ m. bytes_eq (chars m) i) ms ≡ true
back_any i [] h = h
back_any i (m ∷ ms) h = by (bytes_eq (chars m) i) h (back_any i ms)
  where
    by : (a : Bool) → (a || list_any (λ x. bytes_eq x i) (map chars ms)) ≡ true → (list_any (λ x. bytes_eq x i) (map chars ms) ≡ true → list_any (λ x. bytes_eq (chars x) i) ms ≡ true) → (a || list_any (λ x. bytes_eq (chars x) i) ms) ≡ true
    by true e f = refl
    by false e f = f e

module _ (here : Entries) (always : DeclaresOption here) where
  -- ---- bits, texts, prefixes

  bits_shown : (w : ℕ) (x : ScriptValue) → has_sort_in here (bit_sort w) x ≡ true → (a : ℕ) × (x ≡ BitsOf w a) × (a < 2 ^ w)
  bits_shown w (BitsOf v a) h =
      let e : w ≡ v = eqb-true w v (first_so (w == v) true (first_so (same_sort (bit_sort w) (bit_sort v)) (are_bits v a) h)) in
      (a, ap (λ y. BitsOf y a) (sym e), subst (λ y. a < 2 ^ y) (sym e) (below_width v a (second_so (same_sort (bit_sort w) (bit_sort v)) (are_bits v a) h)))
  bits_shown w (ConstructorOf place c vs) h = absurd (not_grouped here (codes "_") (name (codes "BitVec")) (Cons (Leaf (Number w)) Nil) place c vs always.bits h)
  bits_shown w x h = absurd cc

  text_shown : (x : ScriptValue) → has_sort_in here string_sort x ≡ true → (t : List ℕ) × (x ≡ TextOf t) × AreCodePoints t
  text_shown (TextOf t) h = (t, refl, code_points t h)
  text_shown (ConstructorOf place c vs) h = absurd (not_named here (codes "String") place c vs always.texts h)
  text_shown x h = absurd cc

  option_shown : (sort : Expression) (place : ℕ) (c : List ℕ) (vs : ScriptValues) → has_sort_in here (option_sort sort) (ConstructorOf place c vs) ≡ true → (fs : List Expression) × OptionPlace sort place c fs × (have_sorts_in here fs vs ≡ true)
  option_shown sort place c vs h =
      let b : Built here (option_sort sort) place c vs = unbuilt here (option_sort sort) place c vs h in
      let e : b.datatype ≡ codes "Option" = group_at b.datatype (codes "Option") sort Nil b.parameters b.fields b.sorts b.at_sort in
      let o : (b.parameters ≡ codes "X" ∷ []) × (at_place shown_option place ≡ Some (c, b.fields)) = always.options.only place c b.fields b.parameters (b.entry ∙ ap (λ d. Some (Builds d b.parameters place b.fields)) e) in
      let f : Some (map (instance ((codes "X", sort) ∷ [])) b.fields) ≡ Some b.sorts = (λ i. fields_at (sym e i) (sym o.0 i) b.fields (option_sort sort)) ∙ b.at_sort in
      (map (instance ((codes "X", sort) ∷ [])) b.fields, option_place sort place c b.fields o.1, ap (λ x. have_sorts_in here x vs) (taken (List Expression) (map (instance ((codes "X", sort) ∷ [])) b.fields) b.sorts f) ∙ b.typed)

  none_shown : (sort : Expression) (place : ℕ) (c : List ℕ) → has_sort_in here (option_sort sort) (ConstructorOf place c no_script_values) ≡ true → (place ≡ 0) × (c ≡ codes "none")
  none_shown sort place c h =
      let o : (fs : List Expression) × OptionPlace sort place c fs × (have_sorts_in here fs no_script_values ≡ true) = option_shown sort place c no_script_values h in
      ⊎_elim (λ p. (p.0, p.1)) (λ p. absurd (let z : false ≡ true = ap (λ x. have_sorts_in here x no_script_values) (sym p.2) ∙ o.2 in cc)) o.1

  some_shown : (sort : Expression) (place : ℕ) (c : List ℕ) (x : ScriptValue) (ys : ScriptValues) → has_sort_in here (option_sort sort) (ConstructorOf place c (one_script_value x ys)) ≡ true
      → (place ≡ 1) × (c ≡ codes "some") × (has_sort_in here sort x ≡ true) × (ys ≡ no_script_values)
  some_shown sort place c x ys h =
      let o : (fs : List Expression) × OptionPlace sort place c fs × (have_sorts_in here fs (one_script_value x ys) ≡ true) = option_shown sort place c (one_script_value x ys) h in
      ⊎_elim (λ p. absurd (let z : false ≡ true = ap (λ y. have_sorts_in here y (one_script_value x ys)) (sym p.2) ∙ o.2 in cc))
      (λ p. let z : (has_sort_in here sort x && have_sorts_in here [] ys) ≡ true = ap (λ y. have_sorts_in here y (one_script_value x ys)) (sym p.2) ∙ o.2 in
      (p.0, p.1, first_so (has_sort_in here sort x) (have_sorts_in here [] ys) z, no_more here ys (second_so (has_sort_in here sort x) (have_sorts_in here [] ys) z))) o.1

  prefix_shown : (w : ℕ) (x : ScriptValue) → has_sort_in here (option_sort (bit_sort w)) x ≡ true → (x ≡ carry_prefix w (back_prefix x)) × IsPrefix w (back_prefix x)
  prefix_shown w (ConstructorOf place c no_script_values) h =
      let o : (place ≡ 0) × (c ≡ codes "none") = none_shown (bit_sort w) place c h in
      (λ i. ConstructorOf (o.0 i) (o.1 i) no_script_values, tt)
  prefix_shown w (ConstructorOf place c (one_script_value y ys)) h =
      let o : (place ≡ 1) × (c ≡ codes "some") × (has_sort_in here (bit_sort w) y ≡ true) × (ys ≡ no_script_values) = some_shown (bit_sort w) place c y ys h in
      let b : (a : ℕ) × (y ≡ BitsOf w a) × (a < 2 ^ w) = bits_shown w y o.2 in
      subst (λ z. (ConstructorOf place c (one_script_value z ys) ≡ carry_prefix w (back_prefix (ConstructorOf place c (one_script_value z ys)))) × IsPrefix w (back_prefix (ConstructorOf place c (one_script_value z ys)))) (sym b.1)
      (λ i. ConstructorOf (o.0 i) (o.1 i) (one_script_value (BitsOf w b.0) (o.3 i)), b.2)
  prefix_shown w x h = absurd cc

  -- ---- extension values

  alone_shown : (w : ℕ) (vs : ScriptValues) → have_sorts_in here (bit_sort w ∷ []) vs ≡ true → (a : ℕ) × (vs ≡ alone (BitsOf w a)) × (a < 2 ^ w)
  alone_shown w no_script_values h = absurd cc
  alone_shown w (one_script_value y ys) h =
      let b : (a : ℕ) × (y ≡ BitsOf w a) × (a < 2 ^ w) = bits_shown w y (first_so (has_sort_in here (bit_sort w) y) (have_sorts_in here [] ys) h) in
      let e : ys ≡ no_script_values = no_more here ys (second_so (has_sort_in here (bit_sort w) y) (have_sorts_in here [] ys) h) in
      (b.0, λ i. one_script_value (b.1 i) (e i), b.2)

  address_shown : (w bits : ℕ) (vs : ScriptValues) → have_sorts_in here (bit_sort w ∷ option_sort (bit_sort bits) ∷ []) vs ≡ true
      → (a : ℕ) × (x : ScriptValue) × (vs ≡ one_script_value (BitsOf w a) (alone x)) × (a < 2 ^ w) × ((x ≡ carry_prefix bits (back_prefix x)) × IsPrefix bits (back_prefix x))
  address_shown w bits no_script_values h = absurd cc
  address_shown w bits (one_script_value y no_script_values) h = absurd (let z = second_so (has_sort_in here (bit_sort w) y) false h in cc)
  address_shown w bits (one_script_value y (one_script_value x ys)) h =
      let r : (has_sort_in here (option_sort (bit_sort bits)) x && have_sorts_in here [] ys) ≡ true = second_so (has_sort_in here (bit_sort w) y) (has_sort_in here (option_sort (bit_sort bits)) x && have_sorts_in here [] ys) h in
      let b : (a : ℕ) × (y ≡ BitsOf w a) × (a < 2 ^ w) = bits_shown w y (first_so (has_sort_in here (bit_sort w) y) (has_sort_in here (option_sort (bit_sort bits)) x && have_sorts_in here [] ys) h) in
      let e : ys ≡ no_script_values = no_more here ys (second_so (has_sort_in here (option_sort (bit_sort bits)) x) (have_sorts_in here [] ys) r) in
      (b.0, x, λ i. one_script_value (b.1 i) (one_script_value x (e i)), b.2, prefix_shown bits x (first_so (has_sort_in here (option_sort (bit_sort bits)) x) (have_sorts_in here [] ys) r))

  abbrev Returns : ExtensionKind → ℕ → List ℕ → ScriptValues → Type 0
  Returns kind place c vs = IsExtension kind (back_extension kind place vs) × (carry_extension (back_extension kind place vs) ≡ ConstructorOf place c vs)

  long_returns : (kind : ExtensionKind) (build : ℤ → PlainExtension) (n : List ℕ) (place : ℕ) (c : List ℕ) (vs : ScriptValues)
      → ((p a : ℕ) → back_extension kind p (alone (BitsOf 64 a)) ≡ build (signed 64 a)) → ((z : ℤ) → IsLong z → IsExtension kind (build z)) → ((z : ℤ) → carry_extension (build z) ≡ ConstructorOf 0 n (alone (BitsOf 64 (bits_of 64 z))))
      → Fielded here ((n, bit_sort 64 ∷ []) ∷ []) place c vs → Returns kind place c vs
  long_returns kind build n place c vs back_is good carry_is f =
      let o : (place ≡ 0) × (c ≡ n) × (f.fields ≡ bit_sort 64 ∷ []) = the_only n (bit_sort 64 ∷ []) place c f.fields f.stands in
      let a : (a : ℕ) × (vs ≡ alone (BitsOf 64 a)) × (a < 2 ^ 64) = alone_shown 64 vs (subst (λ fs. have_sorts_in here fs vs ≡ true) o.2 f.typed) in
      let same : bits_of 64 (signed 64 a.0) ≡ a.0 = signed_has_its_bits 64 a.0 a.2 in
      subst (λ xs. Returns kind place c xs) (sym a.1) (
        subst (λ x. IsExtension kind x) (sym (back_is place a.0)) (good (signed 64 a.0) (signed_long a.0 a.2)),
        ap carry_extension (back_is place a.0) ∙ (carry_is (signed 64 a.0) ∙ λ i. ConstructorOf (sym o.0 i) (sym o.1 i) (alone (BitsOf 64 (same i)))),
      )

  ranges_return : (place : ℕ) (c : List ℕ) (vs : ScriptValues) → (f : Fielded here (shown_kind IpAddrKind) place c vs) → Returns IpAddrKind place c vs
  ranges_return zero c vs f =
      let p : (c ≡ codes "V4") × (f.fields ≡ bit_sort 32 ∷ option_sort (bit_sort 5) ∷ []) = pair_taken (codes "V4") c (bit_sort 32 ∷ option_sort (bit_sort 5) ∷ []) f.fields f.stands in
      let n : c ≡ codes "V4" = p.0 in
      let a : (a : ℕ) × (x : ScriptValue) × (vs ≡ one_script_value (BitsOf 32 a) (alone x)) × (a < 2 ^ 32) × ((x ≡ carry_prefix 5 (back_prefix x)) × IsPrefix 5 (back_prefix x)) = address_shown 32 5 vs (subst (λ fs. have_sorts_in here fs vs ≡ true) p.1 f.typed) in
      subst (λ xs. Returns IpAddrKind 0 c xs) (sym a.2) ((a.3, a.4.1), λ i. ConstructorOf 0 (sym n i) (one_script_value (BitsOf 32 a.0) (alone (sym a.4.0 i))))
  ranges_return (suc zero) c vs f =
      let p : (c ≡ codes "V6") × (f.fields ≡ bit_sort 128 ∷ option_sort (bit_sort 7) ∷ []) = pair_taken (codes "V6") c (bit_sort 128 ∷ option_sort (bit_sort 7) ∷ []) f.fields f.stands in
      let n : c ≡ codes "V6" = p.0 in
      let a : (a : ℕ) × (x : ScriptValue) × (vs ≡ one_script_value (BitsOf 128 a) (alone x)) × (a < 2 ^ 128) × ((x ≡ carry_prefix 7 (back_prefix x)) × IsPrefix 7 (back_prefix x)) = address_shown 128 7 vs (subst (λ fs. have_sorts_in here fs vs ≡ true) p.1 f.typed) in
      subst (λ xs. Returns IpAddrKind 1 c xs) (sym a.2) ((a.3, a.4.1), λ i. ConstructorOf 1 (sym n i) (one_script_value (BitsOf 128 a.0) (alone (sym a.4.0 i))))
  ranges_return (suc (suc p)) c vs f = absurd (let e : None ≡ Some (c, f.fields) = f.stands in cc)

  extension_returns : (kind : ExtensionKind) (place : ℕ) (c : List ℕ) (vs : ScriptValues) → Fielded here (shown_kind kind) place c vs → Returns kind place c vs
  extension_returns DecimalKind place c vs f = long_returns DecimalKind DecimalOf (codes "Decimal") place c vs (λ p a. refl) (λ z h. h) (λ z. refl) f
  extension_returns DatetimeKind place c vs f = long_returns DatetimeKind DatetimeOf (codes "Datetime") place c vs (λ p a. refl) (λ z h. h) (λ z. refl) f
  extension_returns DurationKind place c vs f = long_returns DurationKind DurationOf (codes "Duration") place c vs (λ p a. refl) (λ z h. h) (λ z. refl) f
  extension_returns IpAddrKind place c vs f = ranges_return place c vs f

  -- ---- entities

  abbrev EntityReturns : Option (List (List ℕ)) → List ℕ → List ℕ → ℕ → List ℕ → ScriptValues → Type 0
  EntityReturns members e n place c vs = (i : List ℕ) × (back_entity members e place vs ≡ EntityValue e i) × IsId members i × (carry_entity members n i ≡ ConstructorOf place c vs)

  id_returns : (n : List ℕ) (place : ℕ) (c : List ℕ) (vs : ScriptValues) (e : List ℕ) → (place ≡ 0) → (c ≡ n) → have_sorts_in here (string_sort ∷ []) vs ≡ true → EntityReturns None e n place c vs
  id_returns n place c no_script_values e p q h = absurd cc
  id_returns n place c (one_script_value y ys) e p q h =
      let t : (t : List ℕ) × (y ≡ TextOf t) × AreCodePoints t = text_shown y (first_so (has_sort_in here string_sort y) (have_sorts_in here [] ys) h) in
      let r : ys ≡ no_script_values = no_more here ys (second_so (has_sort_in here string_sort y) (have_sorts_in here [] ys) h) in
      subst (λ z. EntityReturns None e n place c (one_script_value z ys)) (sym t.1)
      (t.0, refl, t.2, λ i. ConstructorOf (sym p i) (sym q i) (one_script_value (TextOf t.0) (sym r i)))

  entity_returns : (members : Option (List (List ℕ))) (n : List ℕ) (place : ℕ) (c : List ℕ) (vs : ScriptValues) (e : List ℕ) → IfSome members AreAscending → Fielded here (shown_entity members n) place c vs → EntityReturns members e n place c vs
  entity_returns None n place c vs e m f =
      let o : (place ≡ 0) × (c ≡ n) × (f.fields ≡ string_sort ∷ []) = the_only n (string_sort ∷ []) place c f.fields f.stands in
      id_returns n place c vs e o.0 o.1 (subst (λ fs. have_sorts_in here fs vs ≡ true) o.2 f.typed)
  entity_returns (Some members) n place c vs e m f =
      let o : (place < length members) × (c ≡ member_name n (0 + place)) × (f.fields ≡ []) = member_placed n 0 members place c f.fields f.stands in
      let l : place < length members = o.0 in
      let k : place < length (map chars members) = subst (λ x. place < x) (sym (length_chars members)) l in
      let r : vs ≡ no_script_values = no_more here vs (subst (λ fs. have_sorts_in here fs vs ≡ true) o.2 f.typed) in
      let z : 0 + place ≡ place = omega arith in
      let t : text_at (map chars members) place ≡ chars (text_at members place) = text_chars members place l in
      let p : place_of (chars (text_at members place)) (map chars members) ≡ place = ap (λ x. place_of x (map chars members)) (sym t) ∙ place_found (map chars members) place (ascends_chars members m.texts m.ascending) k in (
        chars (text_at members place),
        refl,
        back_any (chars (text_at members place)) members (ap (λ x. list_any (λ y. bytes_eq y x) (map chars members)) (sym t) ∙ text_in (map chars members) place k),
        (λ i. ConstructorOf (p i) (member_name n (p i)) no_script_values) ∙ λ i. ConstructorOf place (sym (o.1 ∙ ap (member_name n) z) i) (sym r i),
      )

  module _ (enums : Enums) (s : Tables) (good : AreEnums enums) where
    abbrev Onto : PlainType → ScriptValue → Type 0
    Onto ty x = IsValue enums ty (back enums ty x) × (carry enums s ty (back enums ty x) ≡ x)

    entity_onto : (e : List ℕ) (place : ℕ) (c : List ℕ) (vs : ScriptValues) → EntityReturns (members_of enums e) e (type_name s (EntityType e)) place c vs → Onto (EntityType e) (ConstructorOf place c vs)
    entity_onto e place c vs r =
        subst (λ v. IsValue enums (EntityType e) v × (carry enums s (EntityType e) v ≡ ConstructorOf place c vs)) (sym r.1)
        ((refl, r.2), r.3)

    -- values that are carried to a set that ascends, ascend
    ascends_back : (t : PlainType) (ws : Values) → AllByRecursion (λ v. IsValue enums t v) (list_of_values ws) → script.ascends (carry_values enums s t ws) ≡ true → ascends value_cmp (list_of_values ws) ≡ true
    ascends_back t no_values k h = refl
    ascends_back t (one_value w no_values) k h = refl
    ascends_back t (one_value v (one_value w ws)) k h =
        let c : is_lt (order (carry enums s t v) (carry enums s t w)) ≡ true = first_so (is_lt (order (carry enums s t v) (carry enums s t w))) (script.ascends_from (carry enums s t w) (carry_values enums s t ws)) h in
        both_true (sym (ap is_lt (keeps enums s good t v w k.0 k.1.0)) ∙ c)
        (ascends_back t (one_value w ws) k.1 (second_so (is_lt (order (carry enums s t v) (carry enums s t w))) (script.ascends_from (carry enums s t w) (carry_values enums s t ws)) h))

    not_text : (n : List ℕ) (cs : Constructors) (b : Bool) → IsNamed here n cs → (bytes_eq n (codes "String") && b) ≡ true → ⊥
    not_text n cs b d h = let z : true ≡ false = sym (first_so (bytes_eq n (codes "String")) b h) ∙ d.not_string in cc

    not_truth : (n : List ℕ) (cs : Constructors) → IsNamed here n cs → bytes_eq n (codes "Bool") ≡ true → ⊥
    not_truth n cs d h = let z : true ≡ false = sym h ∙ d.not_bool in cc

    mutual
      pub onto : (ty : PlainType) (x : ScriptValue) → TypeIsDeclared enums s here ty → has_sort_in here (type_sort s ty) x ≡ true → Onto ty x
      onto BoolType (TruthOf b) d h = (tt, refl)
      onto BoolType (ConstructorOf place c vs) d h = absurd (not_named here (codes "Bool") place c vs always.truths h)
      onto BoolType x d h = absurd cc
      onto (BitVecType n) (BitsOf w a) d h =
          let b : (a' : ℕ) × (BitsOf w a ≡ BitsOf n a') × (a' < 2 ^ n) = bits_shown n (BitsOf w a) h in
          let e : w ≡ n = cc in let f : b.0 ≡ a = cc in ((e, subst (λ y. y < 2 ^ n) f b.2), refl)
      onto (BitVecType n) (ConstructorOf place c vs) d h = absurd (not_grouped here (codes "_") (name (codes "BitVec")) (Cons (Leaf (Number n)) Nil) place c vs always.bits h)
      onto (BitVecType n) x d h = absurd cc
      onto StringType (TextOf t) d h = (code_points t h, refl)
      onto StringType (ConstructorOf place c vs) d h = absurd (not_named here (codes "String") place c vs always.texts h)
      onto StringType x d h = absurd cc
      onto (EntityType e) (ConstructorOf place c vs) d h =
          entity_onto e place c vs
          (entity_returns (members_of enums e) (type_name s (EntityType e)) place c vs e (members_found enums e good)
          (named_fields here (type_name s (EntityType e)) (shown_entity (members_of enums e) (type_name s (EntityType e))) place c vs d h))
      onto (EntityType e) (TruthOf b) d h = absurd (not_truth (type_name s (EntityType e)) (shown_entity (members_of enums e) (type_name s (EntityType e))) d h)
      onto (EntityType e) (TextOf t) d h = absurd (not_text (type_name s (EntityType e)) (shown_entity (members_of enums e) (type_name s (EntityType e))) (list_all is_code_point t) d h)
      onto (EntityType e) x d h = absurd cc
      onto (ExtensionType kind) (ConstructorOf place c vs) d h = extension_returns kind place c vs (named_fields here (type_name s (ExtensionType kind)) (shown_kind kind) place c vs d h)
      onto (ExtensionType kind) (TruthOf b) d h = absurd (not_truth (type_name s (ExtensionType kind)) (shown_kind kind) d h)
      onto (ExtensionType kind) (TextOf t) d h = absurd (not_text (type_name s (ExtensionType kind)) (shown_kind kind) (list_all is_code_point t) d h)
      onto (ExtensionType kind) x d h = absurd cc
      onto (OptionType t) (ConstructorOf place c no_script_values) d h =
          let o : (place ≡ 0) × (c ≡ codes "none") = none_shown (type_sort s t) place c h in
          (tt, λ i. ConstructorOf (sym o.0 i) (sym o.1 i) no_script_values)
      onto (OptionType t) (ConstructorOf place c (one_script_value y ys)) d h =
          let o : (place ≡ 1) × (c ≡ codes "some") × (has_sort_in here (type_sort s t) y ≡ true) × (ys ≡ no_script_values) = some_shown (type_sort s t) place c y ys h in
          let r : Onto t y = onto t y d o.2 in
          (r.0, λ i. ConstructorOf (sym o.0 i) (sym o.1 i) (one_script_value (r.1 i) (sym o.3 i)))
      onto (OptionType t) x d h = absurd cc
      onto (RecordType x) (ConstructorOf place c vs) d h =
          let f : Fielded here ((type_name s (RecordType x), attribute_sorts s x) ∷ []) place c vs = named_fields here (type_name s (RecordType x)) ((type_name s (RecordType x), attribute_sorts s x) ∷ []) place c vs d.0 h in
          let o : (place ≡ 0) × (c ≡ type_name s (RecordType x)) × (f.fields ≡ attribute_sorts s x) = the_only (type_name s (RecordType x)) (attribute_sorts s x) place c f.fields f.stands in
          let r : AreFieldValues enums x (back_fields enums x vs) × (carry_fields enums s x (back_fields enums x vs) ≡ vs) = onto_fields x vs d.1 (subst (λ fs. have_sorts_in here fs vs ≡ true) o.2 f.typed) in
          (r.0, λ i. ConstructorOf (sym o.0 i) (sym o.1 i) (r.1 i))
      onto (RecordType x) (TruthOf b) d h = absurd (not_truth (type_name s (RecordType x)) ((type_name s (RecordType x), attribute_sorts s x) ∷ []) d.0 h)
      onto (RecordType x) (TextOf t) d h = absurd (not_text (type_name s (RecordType x)) ((type_name s (RecordType x), attribute_sorts s x) ∷ []) (list_all is_code_point t) d.0 h)
      onto (RecordType x) v d h = absurd cc
      onto (SetType t) (SetOf vs) d h =
          let r : AllByRecursion (λ v. IsValue enums t v) (list_of_values (back_values enums t vs)) × (carry_values enums s t (back_values enums t vs) ≡ vs) = onto_each t vs d (first_so (all_have_sort_in here (type_sort s t) vs) (script.ascends vs) h) in
          ((ascends_back t (back_values enums t vs) r.0 (ap script.ascends r.1 ∙ second_so (all_have_sort_in here (type_sort s t) vs) (script.ascends vs) h), r.0), ap SetOf r.1)
      onto (SetType t) (ConstructorOf place c vs) d h = absurd (not_grouped here (codes "Set") (type_sort s t) Nil place c vs always.sets h)
      onto (SetType t) x d h = absurd cc

      onto_each : (t : PlainType) (vs : ScriptValues) → TypeIsDeclared enums s here t → all_have_sort_in here (type_sort s t) vs ≡ true
          → AllByRecursion (λ v. IsValue enums t v) (list_of_values (back_values enums t vs)) × (carry_values enums s t (back_values enums t vs) ≡ vs)
      onto_each t no_script_values d h = (tt, refl)
      onto_each t (one_script_value y ys) d h =
          let p : Onto t y = onto t y d (first_so (has_sort_in here (type_sort s t) y) (all_have_sort_in here (type_sort s t) ys) h) in
          let r : AllByRecursion (λ v. IsValue enums t v) (list_of_values (back_values enums t ys)) × (carry_values enums s t (back_values enums t ys) ≡ ys) = onto_each t ys d (second_so (has_sort_in here (type_sort s t) y) (all_have_sort_in here (type_sort s t) ys) h) in
          ((p.0, r.0), λ i. one_script_value (p.1 i) (r.1 i))

      onto_fields : (x : AttributeTypes) (vs : ScriptValues) → AttributesAreDeclared enums s here x → have_sorts_in here (attribute_sorts s x) vs ≡ true
          → AreFieldValues enums x (back_fields enums x vs) × (carry_fields enums s x (back_fields enums x vs) ≡ vs)
      onto_fields no_attributes no_script_values d h = (tt, refl)
      onto_fields no_attributes (one_script_value y ys) d h = absurd cc
      onto_fields (attribute a t x) no_script_values d h = absurd cc
      onto_fields (attribute a t x) (one_script_value y ys) d h =
          let p : Onto t y = onto t y d.0 (first_so (has_sort_in here (type_sort s t) y) (have_sorts_in here (attribute_sorts s x) ys) h) in
          let r : AreFieldValues enums x (back_fields enums x ys) × (carry_fields enums s x (back_fields enums x ys) ≡ ys) = onto_fields x ys d.1 (second_so (has_sort_in here (type_sort s t) y) (have_sorts_in here (attribute_sorts s x) ys) h) in
          ((refl, p.0, r.0), λ i. one_script_value (p.1 i) (r.1 i))

    pub comes_back : (ty : PlainType) (v : Value) → TypeIsDeclared enums s here ty → IsValue enums ty v → back enums ty (carry enums s ty v) ≡ v
    comes_back ty v d h =
        let r : Onto ty (carry enums s ty v) = onto ty (carry enums s ty v) d (sorted_value here always enums s good ty v d h) in
        (one_to_one enums s good ty (back enums ty (carry enums s ty v)) v r.0 h).0 r.1
