-- The sorts that operators give to arguments of the sorts of their types.
use Rattle.std.proofs.Common.{◌≡◌, ℕ, ◌+◌, Bool, true, false, ◌&&◌, List, [], ◌∷◌, ◌++◌, map, refl, sym, ap, ap₂, ◌∙◌, Option, Some, None}
use Rattle.std.specs.Prelude.{nat_le, if◌then◌else◌, ◌==◌}
use Rattle.std.specs.Cmp.{first_so, second_so}
use Rattle.std.specs.List.{list_all}
use Rattle.std.proofs.lemmas.Bool.{and_parts, and_from, eq-eqb, false≢true}
use Rattle.law_terms.specs.Plain.{PlainType, BitVecType, BoolType, StringType, SetType, PlainOp, AndOp, BvnegOp, EqOp, IteOp, NotOp, OrOp, SetInterOp, SetMemberOp, SetSubsetOp, StringLikeOp, ZeroExtendOp, BitsOp, TestOp, OverflowOp, PlainTerms, no_terms, one_term}
use Rattle.law_terms.specs.Types.{type_eq, type_of, types_of, is_bits, is_set, result_type}
use Rattle.law_terms.proofs.Soundness.{chosen}
use Rattle.law_terms.proofs.TypeOrder.{eq_same}
use Rattle.law_terms.proofs.ValueOrder.{bytes_itself}
use Rattle.law_texts.specs.Lexicon.{Atom, Bits, Number, Text, Name}
use Rattle.law_texts.specs.Reading.{Expression, Leaf, Node, Expressions, Nil, Cons}
use Rattle.law_texts.specs.Options.{◌>>=◌}
use Rattle.law_scripts.specs.Sorts.{same_atom, same_sort, same_sorts, bool_sort, bit_sort, set_sort, sort_width, if_sort, not_sort, two_truths_sort, equal_sort, choice_sort, member_sort, two_sets_sort, text_sort, bits_sort, operator_sort, insert_sort, match_sort, match_sorts}
use Rattle.law_lines.specs.NameTables.{Tables}
use Rattle.law_lines.specs.Naming.{type_sort}
use Rattle.law_theorem.specs.CarriedOperators.{is_script_operator}

-- ---- a sort is the same as itself

number_itself : (n : ℕ) → (n == n) ≡ true
number_itself n = eq-eqb n n refl

atom_itself : (a : Atom) → same_atom a a ≡ true
atom_itself (Bits w n) = and_from (w == w) (n == n) (number_itself w) (number_itself n)
atom_itself (Number n) = number_itself n
atom_itself (Text t) = bytes_itself t
atom_itself (Name n) = bytes_itself n

mutual
  pub same_itself : (e : Expression) → same_sort e e ≡ true
  same_itself (Leaf a) = atom_itself a
  same_itself (Node es) = all_themselves es

  pub all_themselves : (es : Expressions) → same_sorts es es ≡ true
  all_themselves Nil = refl
  all_themselves (Cons e es) = and_from (same_sort e e) (same_sorts es es) (same_itself e) (all_themselves es)

-- a sort without parameters matches itself
mutual
  match_itself : (e : Expression) → match_sort [] e e [] ≡ Some []
  match_itself (Leaf (Name n)) = ap (λ b. if b then Some [] else None) (bytes_itself n)
  match_itself (Leaf (Bits w n)) = ap (λ b. if b then Some [] else None) (atom_itself (Bits w n))
  match_itself (Leaf (Number n)) = ap (λ b. if b then Some [] else None) (number_itself n)
  match_itself (Leaf (Text t)) = ap (λ b. if b then Some [] else None) (bytes_itself t)
  match_itself (Node es) = match_themselves es

  pub match_themselves : (es : Expressions) → match_sorts [] es es [] ≡ Some []
  match_themselves Nil = refl
  match_themselves (Cons e es) = ap (λ (o : Option (List (List ℕ × Expression))). o >>= match_sorts [] es es) (match_itself e) ∙ match_themselves es

-- ---- operators

module _ (s : Tables) where
  abbrev Gives : PlainOp → List PlainType → PlainType → Type 0
  Gives op tys ty = operator_sort op (map (type_sort s) tys) ≡ Some (type_sort s ty)

  is_type : (t ty : PlainType) → t ≡ ty → Some (type_sort s t) ≡ Some (type_sort s ty)
  is_type t ty e = ap (λ (u : PlainType). Some (type_sort s u)) e

  negated : (t ty : PlainType) → is_bits t ≡ true → t ≡ ty → Gives BvnegOp (t ∷ []) ty
  negated (BitVecType n) ty b e = is_type (BitVecType n) ty e
  negated t ty b e = absurd (false≢true b)

  extended : (k : ℕ) (t ty : PlainType) → result_type (ZeroExtendOp k) (t ∷ []) ≡ Some ty → Gives (ZeroExtendOp k) (t ∷ []) ty
  extended k (BitVecType n) ty r =
      let c : (nat_le (n + k) 128 ≡ true) × (BitVecType (n + k) ≡ ty) = chosen (nat_le (n + k) 128) (BitVecType (n + k)) ty r in
      ap (λ b. if_sort b (bit_sort (n + k))) c.0 ∙ is_type (BitVecType (n + k)) ty c.1
  extended k t ty r = absurd cc

  -- two arguments of one width
  two_bits : (result_bits result_truth : Bool) (t u : PlainType) → (is_bits t && type_eq t u) ≡ true → (a : Expression) → (sort_width (type_sort s t) >>= λ w. if result_bits then Some (bit_sort w) else (if result_truth then Some bool_sort else None)) ≡ Some a
      → bits_sort result_bits result_truth (type_sort s t ∷ type_sort s u ∷ []) ≡ Some a
  two_bits result_bits result_truth (BitVecType n) u b a h =
      let e : BitVecType n ≡ u = eq_same (BitVecType n) u b in
      ap (λ (v : PlainType). bits_sort result_bits result_truth (bit_sort n ∷ type_sort s v ∷ [])) (sym e)
      ∙ ap (λ c. (if c then Some n else None) >>= λ w. if result_bits then Some (bit_sort w) else (if result_truth then Some bool_sort else None)) (number_itself n)
      ∙ h
  two_bits result_bits result_truth t u b a h = absurd (false≢true (first_so (is_bits t) (type_eq t u) b))

  width_of : (t : PlainType) → is_bits t ≡ true → (sort_width (type_sort s t) >>= λ w. Some (bit_sort w)) ≡ Some (type_sort s t)
  width_of (BitVecType n) b = refl
  width_of t b = absurd (false≢true b)

  width_there : (t : PlainType) → is_bits t ≡ true → (sort_width (type_sort s t) >>= λ w. Some bool_sort) ≡ Some bool_sort
  width_there (BitVecType n) b = refl
  width_there t b = absurd (false≢true b)

  two_sets : (result_set : Bool) (t u : PlainType) → (is_set t && type_eq t u) ≡ true → two_sets_sort result_set (type_sort s t ∷ type_sort s u ∷ []) ≡ Some (if result_set then type_sort s t else bool_sort)
  two_sets result_set (SetType v) u b =
      let e : SetType v ≡ u = eq_same (SetType v) u b in
      ap (λ (w : PlainType). two_sets_sort result_set (type_sort s (SetType v) ∷ type_sort s w ∷ [])) (sym e)
      ∙ ap (λ c. if_sort c (if result_set then type_sort s (SetType v) else bool_sort)) (same_itself (type_sort s (SetType v)))
  two_sets result_set t u b = absurd (false≢true (first_so (is_set t) (type_eq t u) b))

  pub operator_sorted : (op : PlainOp) (tys : List PlainType) (ty : PlainType) → is_script_operator op ≡ true → result_type op tys ≡ Some ty → Gives op tys ty
  operator_sorted NotOp (t ∷ []) ty o r =
      let c : (type_eq t BoolType ≡ true) × (BoolType ≡ ty) = chosen (type_eq t BoolType) BoolType ty r in
      ap (λ (u : PlainType). not_sort (type_sort s u ∷ [])) (eq_same t BoolType c.0) ∙ is_type BoolType ty c.1
  operator_sorted AndOp (t ∷ u ∷ []) ty o r =
      let c : ((type_eq t BoolType && type_eq u BoolType) ≡ true) × (BoolType ≡ ty) = chosen (type_eq t BoolType && type_eq u BoolType) BoolType ty r in
      let p = and_parts (type_eq t BoolType) (type_eq u BoolType) c.0 in
      ap₂ (λ (a b : PlainType). two_truths_sort (type_sort s a ∷ type_sort s b ∷ [])) (eq_same t BoolType p.0) (eq_same u BoolType p.1) ∙ is_type BoolType ty c.1
  operator_sorted OrOp (t ∷ u ∷ []) ty o r =
      let c : ((type_eq t BoolType && type_eq u BoolType) ≡ true) × (BoolType ≡ ty) = chosen (type_eq t BoolType && type_eq u BoolType) BoolType ty r in
      let p = and_parts (type_eq t BoolType) (type_eq u BoolType) c.0 in
      ap₂ (λ (a b : PlainType). two_truths_sort (type_sort s a ∷ type_sort s b ∷ [])) (eq_same t BoolType p.0) (eq_same u BoolType p.1) ∙ is_type BoolType ty c.1
  operator_sorted EqOp (t ∷ u ∷ []) ty o r =
      let c : (type_eq t u ≡ true) × (BoolType ≡ ty) = chosen (type_eq t u) BoolType ty r in
      ap (λ (a : PlainType). equal_sort (type_sort s a ∷ type_sort s u ∷ [])) (eq_same t u c.0) ∙ ap (λ b. if_sort b bool_sort) (same_itself (type_sort s u)) ∙ is_type BoolType ty c.1
  operator_sorted IteOp (g ∷ t ∷ u ∷ []) ty o r =
      let c : ((type_eq g BoolType && type_eq t u) ≡ true) × (t ≡ ty) = chosen (type_eq g BoolType && type_eq t u) t ty r in
      let p = and_parts (type_eq g BoolType) (type_eq t u) c.0 in
      ap₂ (λ (a b : PlainType). choice_sort (type_sort s a ∷ type_sort s t ∷ type_sort s b ∷ [])) (eq_same g BoolType p.0) (sym (eq_same t u p.1))
      ∙ ap (λ b. if_sort b (type_sort s t)) (same_itself (type_sort s t)) ∙ is_type t ty c.1
  operator_sorted BvnegOp (t ∷ []) ty o r = let c : (is_bits t ≡ true) × (t ≡ ty) = chosen (is_bits t) t ty r in negated t ty c.0 c.1
  operator_sorted (ZeroExtendOp k) (t ∷ []) ty o r = extended k t ty r
  operator_sorted (BitsOp b) (t ∷ u ∷ []) ty o r =
      let c : ((is_bits t && type_eq t u) ≡ true) × (t ≡ ty) = chosen (is_bits t && type_eq t u) t ty r in
      two_bits true false t u c.0 (type_sort s t) (width_of t (first_so (is_bits t) (type_eq t u) c.0)) ∙ is_type t ty c.1
  operator_sorted (TestOp b) (t ∷ u ∷ []) ty o r =
      let c : ((is_bits t && type_eq t u) ≡ true) × (BoolType ≡ ty) = chosen (is_bits t && type_eq t u) BoolType ty r in
      two_bits false true t u c.0 bool_sort (width_there t (first_so (is_bits t) (type_eq t u) c.0)) ∙ is_type BoolType ty c.1
  operator_sorted (OverflowOp b) (t ∷ u ∷ []) ty o r =
      let c : ((is_bits t && type_eq t u) ≡ true) × (BoolType ≡ ty) = chosen (is_bits t && type_eq t u) BoolType ty r in
      two_bits false true t u c.0 bool_sort (width_there t (first_so (is_bits t) (type_eq t u) c.0)) ∙ is_type BoolType ty c.1
  operator_sorted SetMemberOp (t ∷ u ∷ []) ty o r =
      let c : (type_eq u (SetType t) ≡ true) × (BoolType ≡ ty) = chosen (type_eq u (SetType t)) BoolType ty r in
      ap (λ (a : PlainType). member_sort (type_sort s t ∷ type_sort s a ∷ [])) (eq_same u (SetType t) c.0) ∙ ap (λ b. if_sort b bool_sort) (same_itself (type_sort s t)) ∙ is_type BoolType ty c.1
  operator_sorted SetSubsetOp (t ∷ u ∷ []) ty o r =
      let c : ((is_set t && type_eq t u) ≡ true) × (BoolType ≡ ty) = chosen (is_set t && type_eq t u) BoolType ty r in
      two_sets false t u c.0 ∙ is_type BoolType ty c.1
  operator_sorted SetInterOp (t ∷ u ∷ []) ty o r =
      let c : ((is_set t && type_eq t u) ≡ true) × (t ≡ ty) = chosen (is_set t && type_eq t u) t ty r in
      two_sets true t u c.0 ∙ is_type t ty c.1
  operator_sorted (StringLikeOp p) (t ∷ []) ty o r =
      let c : (type_eq t StringType ≡ true) × (BoolType ≡ ty) = chosen (type_eq t StringType) BoolType ty r in
      ap (λ (u : PlainType). text_sort (type_sort s u ∷ [])) (eq_same t StringType c.0) ∙ is_type BoolType ty c.1
  operator_sorted op tys ty o r = absurd cc

  -- ---- elements of a set

  abbrev put_before : (u : PlainType) (ts : PlainTerms) → List Expression
  put_before u ts = map (type_sort s) (types_of ts) ++ set_sort (type_sort s u) ∷ []

  one_more : (u : PlainType) (e : Expression) (ts : PlainTerms) → e ≡ type_sort s u → insert_sort (put_before u ts) ≡ Some (set_sort (type_sort s u)) → insert_sort (e ∷ put_before u ts) ≡ Some (set_sort (type_sort s u))
  one_more u e no_terms q h = last
    where
      last : insert_sort (e ∷ set_sort (type_sort s u) ∷ []) ≡ Some (set_sort (type_sort s u))
      last = ap (λ (f : Expression). if_sort (same_sort (set_sort (type_sort s u)) (set_sort f)) (set_sort (type_sort s u))) q ∙ ap (λ b. if_sort b (set_sort (type_sort s u))) (same_itself (set_sort (type_sort s u)))
  one_more u e (one_term t ts) q h =
      ap (λ (o : Option Expression). o >>= λ v. if_sort (same_sort v (set_sort e)) v) h
      ∙ ap (λ (f : Expression). if_sort (same_sort (set_sort (type_sort s u)) (set_sort f)) (set_sort (type_sort s u))) q ∙ ap (λ b. if_sort b (set_sort (type_sort s u))) (same_itself (set_sort (type_sort s u)))

  pub elements_sorted : (u : PlainType) (ts : PlainTerms) → list_all (type_eq u) (types_of ts) ≡ true → insert_sort (put_before u ts) ≡ Some (set_sort (type_sort s u))
  elements_sorted u no_terms h = refl
  elements_sorted u (one_term t ts) h =
      let e : u ≡ type_of t = eq_same u (type_of t) (first_so (type_eq u (type_of t)) (list_all (type_eq u) (types_of ts)) h) in
      one_more u (type_sort s (type_of t)) ts (ap (type_sort s) (sym e)) (elements_sorted u ts (second_so (type_eq u (type_of t)) (list_all (type_eq u) (types_of ts)) h))
