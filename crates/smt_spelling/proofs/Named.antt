-- The texts of nodes, and the tables of names that they are.
use Rattle.std.proofs.Common.{◌≡◌, ℕ, zero, suc, ◌+◌, ◌<◌, ◌≤◌, Bool, true, false, List, [], ◌∷◌, length, Option, Some, None, refl, sym, ap, ◌∙◌, subst, inl, inr, ◌⊎◌, arith, length-append}
use Rattle.std.specs.Prelude.{is_none, is_some, IsTrue}
use Rattle.std.specs.List.{AllByRecursion, AllZip}
use Rattle.std.proofs.lemmas.Bool.{false≢true}
use Rattle.law_terms.specs.Interpretations.{function_eq}
use Rattle.law_terms.specs.Plain.{PlainFunction, PlainTerm, PlainType}
use Rattle.law_terms.specs.TermOrder.{term_eq}
use Rattle.law_terms.specs.Types.{type_eq}
use Rattle.law_terms.proofs.TermTotal.{functions_decided, terms_decided, types_decided}
use Rattle.law_terms.specs.Nodes.{Meaning, FunctionMeaning, TermMeaning, TypeMeaning}
use Rattle.law_terms.specs.Meanings.{meanings}
use Rattle.law_terms.proofs.Distinct.{places_differ, places_mean}
use Rattle.law_terms.proofs.Places.{as_many, found_within}
use Rattle.smt_nodes.specs.Interned.{meaning_in, nodes_of, KeepsMeanings}
use Rattle.smt_nodes.specs.View.{place_of}
use Rattle.smt_nodes.specs.declared.id.NodeId.{NodeId}
use Rattle.smt_nodes.specs.declared.interner.Interner.{Interner}
use Rattle.law_lines.specs.NameTables.{Tables, name_of_function, name_of_term, name_of_type, no_names}
use Rattle.law_lines.proofs.Making.{lookup_new, lookup_other}
use Rattle.law_terms.specs.TypeValues.{Enums}
use Rattle.smt_spelling.specs.NodeLines.{has_entry, meaning_fault, name_in, with_name}
use Rattle.smt_spelling.specs.NodeTexts.{kept_now, text_at, AreSound, HasName, HasNameBy, HasNoTexts, IsText, Kept}
use Rattle.smt_spelling.specs.Names.{enums_under, AreKept, AreTables, KeepTables}
use Rattle.smt_spelling.specs.Texts.{kept_at, kept_count, IsKept}
use Rattle.smt_spelling.specs.declared.names.Names.{Names}
use Rattle.smt_spelling.specs.declared.node_names.NodeNames.{NodeNames}
use Rattle.std.proofs.Math.Dec.{eqb}
use Rattle.std.proofs.lemmas.Bool.Decides.{eqb_tells}
use Rattle.smt_spelling.proofs.Kept as kept
use Rattle.smt_spelling.proofs.Levels.{IsStillKept}
use Rattle.smt_spelling.proofs.Inline.{names_stay, text_stays}

-- ---- numbers that stand for things

pub one_id : (i : Interner) (a b : NodeId) (m : Meaning) → meaning_in i a ≡ Some m → meaning_in i b ≡ Some m → a ≡ b
one_id i a b m e f = let same = places_differ (nodes_of i) i.graph (place_of a) (place_of b) m e f in λ k. record { place = same k }

pub at_one_place : (i : Interner) (a b : NodeId) (m n : Meaning) → place_of a ≡ place_of b → meaning_in i a ≡ Some m → meaning_in i b ≡ Some n → m ≡ n
at_one_place i a b m n same e f =
    let h : meaning_in i b ≡ Some m = subst (λ (p : ℕ). meaning_at_place p ≡ Some m) same e in
    cc
  where
    meaning_at_place : ℕ → Option Meaning
    meaning_at_place p = meaning_in i (record { place = p })

-- what stands for something has a place
pub meant_within : (i : Interner) (id : NodeId) (m : Meaning) → meaning_in i id ≡ Some m → place_of id < length (nodes_of i)
meant_within i id m h = let b = found_within (meanings (nodes_of i)) (place_of id) m h in omega (arith, b, as_many (nodes_of i))

-- what stands for something in a larger list stood for it before, where its place was there
pub meant_before : (i j : Interner) → KeepsMeanings i j → (id : NodeId) (m : Meaning) → place_of id < length (nodes_of i) → meaning_in j id ≡ Some m → meaning_in i id ≡ Some m
meant_before i j keeps id m within h =
    let (n, e) = places_mean (nodes_of i) i.graph (place_of id) within in
    let f : meaning_in j id ≡ Some n = keeps id n e in
    let same : n ≡ m = cc in
    e ∙ ap Some same

-- there are no more names than texts
pub counted : (names : NodeNames) → names.terms + names.types + names.functions ≤ kept_count names.texts.items
counted names = omega (arith, names.named, names.ordered)

-- ---- names

-- the text of the node that stands for what has an entry is its name
pub named_at : (i : Interner) (names : NodeNames) (m : Meaning) (o : Option (List ℕ)) (id : NodeId) → HasName i names m o → meaning_in i id ≡ Some m → IsTrue (has_entry m) → text_at names id ≡ o
named_at i names m (Some x) id (other, h, entry, there) e f = ap (text_at names) (one_id i id other m e h) ∙ there
named_at i names m None id none e f = none id e f

-- more nodes are as many at least
pub no_fewer : (i j : Interner) → KeepsMeanings i j → length (nodes_of i) ≤ length (nodes_of j)
no_fewer i j keeps = go (length (nodes_of i)) refl
  where
    go : (n : ℕ) → length (nodes_of i) ≡ n → length (nodes_of i) ≤ length (nodes_of j)
    go zero is = omega (arith, is)
    go (suc n) is =
        let last : NodeId = record { place = n } in
        let (m, h) = places_mean (nodes_of i) i.graph n (omega (arith, is)) in
        let b = meant_within j last m (keeps last m h) in
        omega (arith, is, b)

-- where a text is kept, something stood for it before more nodes came
kept_before : (i j : Interner) (names : NodeNames) → KeepsMeanings i j → length names.texts.items ≤ length (nodes_of i) → (id : NodeId) (m : Meaning) (x : List ℕ) → text_at names id ≡ Some x → meaning_in j id ≡ Some m → meaning_in i id ≡ Some m
kept_before i j names keeps fits id m x there h =
    let b = kept.within names.texts.items (place_of id) x there in
    meant_before i j keeps id m (omega (arith, b, fits)) h

-- ---- more nodes, of which none has a text

module _ (i j : Interner) (names : NodeNames) (keeps : KeepsMeanings i j) (fits : length names.texts.items ≤ length (nodes_of i)) where
  name_grows : (k : Kept) (m : Meaning) (o : Option (List ℕ)) → IsStillKept (kept_at names.texts.items) k → HasNameBy i k.texts m o → HasNameBy j k.texts m o
  name_grows k m (Some x) still (id, h, entry, there) = (id, keeps id m h, entry, there)
  name_grows k m None still none = λ id h entry. go id h entry (k.texts (place_of id)) refl
    where
      go : (id : NodeId) → meaning_in j id ≡ Some m → IsTrue (has_entry m) → (o : Option (List ℕ)) → k.texts (place_of id) ≡ o → k.texts (place_of id) ≡ None
      go id h entry None is = is
      go id h entry (Some x) is = none id (kept_before i j names keeps fits id m x (still (place_of id) x is) h) entry

  -- what was kept at a level are the same tables
  pub kept_grows : (enums : Enums) (k : Kept) (s : Tables) → IsStillKept (kept_at names.texts.items) k → AreKept enums i k s → AreKept enums j k s
  kept_grows enums k s still are = record {
    names = λ m. name_grows k m (name_in s m) still (are.names m);
    inline = λ id m x h none there. are.inline id m x (kept_before i j names keeps fits id m x (still (place_of id) x there) h) none there;
    terms = are.terms;
    types = are.types;
    functions = are.functions;
  }

  -- and so are those at each level
  pub all_grow : (enums : Enums) (ks : List Kept) (below : List Tables) → AllByRecursion (IsStillKept (kept_at names.texts.items)) ks → AllZip (AreKept enums i) ks below → AllZip (AreKept enums j) ks below
  all_grow enums [] [] still are = tt
  all_grow enums [] (s ∷ below) still are = absurd are
  all_grow enums (k ∷ ks) [] still are = absurd are
  all_grow enums (k ∷ ks) (s ∷ below) still are = (kept_grows enums k s still.0 are.0, all_grow enums ks below still.1 are.1)

-- and what has a text has no fault still
pub sound_grows : (enums : Enums) (i j : Interner) (names : NodeNames) → KeepsMeanings i j → length (nodes_of i) ≤ length (nodes_of j) → AreSound enums i names → AreSound enums j names
sound_grows enums i j names keeps longer s = record {
  within = omega (arith, longer, s.within);
  sound = λ id m h. go id m h (text_at names id) refl;
}
  where
    go : (id : NodeId) (m : Meaning) → meaning_in j id ≡ Some m → (o : Option (List ℕ)) → text_at names id ≡ o → IsTrue (is_some (text_at names id)) → IsTrue (is_none (meaning_fault enums m))
    go id m h None is there = absurd (false≢true (sym (ap is_some is) ∙ there))
    go id m h (Some x) is there = s.sound id m (kept_before i j names keeps s.within id m x is h) there

-- ---- one text more

module _ (n : Names) (id : NodeId) (m : Meaning) (x : List ℕ) (texts : NodeNames) (is : IsKept n.texts.texts.items texts.texts.items (place_of id) x) (meant : meaning_in n.nodes id ≡ Some m) (unkept : text_at n.texts id ≡ None) where
  -- another thing has what it had
  other_stays : (other : NodeId) (k : Meaning) → meaning_in n.nodes other ≡ Some k → ¬ (k ≡ m) → text_at texts other ≡ text_at n.texts other
  other_stays other k h apart = is.others (place_of other) (λ same. apart (at_one_place n.nodes other id k m same h meant))

  name_stays : (k : Meaning) (o : Option (List ℕ)) → ¬ (k ≡ m) → HasName n.nodes n.texts k o → HasName n.nodes texts k o
  name_stays k (Some y) apart (other, h, entry, there) = (other, h, entry, other_stays other k h apart ∙ there)
  name_stays k None apart none = λ other h entry. other_stays other k h apart ∙ none other h entry

  pub still_sound : (enums : Enums) → meaning_fault enums m ≡ None → AreSound enums n.nodes n.texts → AreSound enums n.nodes texts
  still_sound enums none s = record {
    within = omega (arith, is.as_many, s.within);
    sound = λ other k h. go other k h (eqb_tells (place_of other) (place_of id));
  }
    where
      go : (other : NodeId) (k : Meaning) → meaning_in n.nodes other ≡ Some k → ((eqb (place_of other) (place_of id) ≡ true) × (place_of other ≡ place_of id)) ⊎ ((eqb (place_of other) (place_of id) ≡ false) × ¬ (place_of other ≡ place_of id))
          → IsTrue (is_some (text_at texts other)) → IsTrue (is_none (meaning_fault enums k))
      go other k h (inl same) there = ap (λ q. is_none (meaning_fault enums q)) (at_one_place n.nodes other id k m same.1 h meant) ∙ ap is_none none
      go other k h (inr apart) there = s.sound other k h (ap is_some (sym (is.others (place_of other) apart.1)) ∙ there)

-- ---- the tables, with one name more

-- what the tables have then: of the thing itself the name, and of another one what they had
abbrev pub FoundIn : Tables → Meaning → List ℕ → Meaning → Type 0
FoundIn s m x k = ((k ≡ m) × (name_in (with_name s m x) k ≡ Some x)) ⊎ (¬ (k ≡ m) × (name_in (with_name s m x) k ≡ name_in s k))

pub found_then : (s : Tables) (m : Meaning) (x : List ℕ) → name_in s m ≡ None → (k : Meaning) → FoundIn s m x k
found_then s (TypeMeaning t) x none (TypeMeaning q) = go (type_eq q t) refl
  where
    same_type : TypeMeaning q ≡ TypeMeaning t → q ≡ t
    same_type h = cc

    go : (b : Bool) → type_eq q t ≡ b → FoundIn s (TypeMeaning t) x (TypeMeaning q)
    go true e =
        let same : q ≡ t = (types_decided q t).0 e in
        inl (ap TypeMeaning same, lookup_new (type_eq q) s.types t x e (ap (name_of_type s) same ∙ none))
    go false e = inr (λ h. false≢true (sym e ∙ (types_decided q t).1 (same_type h)), lookup_other (type_eq q) s.types t x e)
found_then s (FunctionMeaning f) x none (FunctionMeaning q) = go (function_eq q f) refl
  where
    same_function : FunctionMeaning q ≡ FunctionMeaning f → q ≡ f
    same_function h = cc

    go : (b : Bool) → function_eq q f ≡ b → FoundIn s (FunctionMeaning f) x (FunctionMeaning q)
    go true e =
        let same : q ≡ f = (functions_decided q f).0 e in
        inl (ap FunctionMeaning same, lookup_new (function_eq q) s.functions f x e (ap (name_of_function s) same ∙ none))
    go false e = inr (λ h. false≢true (sym e ∙ (functions_decided q f).1 (same_function h)), lookup_other (function_eq q) s.functions f x e)
found_then s (TermMeaning t) x none (TermMeaning q) = go (term_eq q t) refl
  where
    same_term : TermMeaning q ≡ TermMeaning t → q ≡ t
    same_term h = cc

    go : (b : Bool) → term_eq q t ≡ b → FoundIn s (TermMeaning t) x (TermMeaning q)
    go true e =
        let same : q ≡ t = (terms_decided q t).0 e in
        inl (ap TermMeaning same, lookup_new (term_eq q) s.terms t x e (ap (name_of_term s) same ∙ none))
    go false e = inr (λ h. false≢true (sym e ∙ (terms_decided q t).1 (same_term h)), lookup_other (term_eq q) s.terms t x e)
found_then s (TypeMeaning t) x none (FunctionMeaning q) = inr (λ h. cc, refl)
found_then s (TypeMeaning t) x none (TermMeaning q) = inr (λ h. cc, refl)
found_then s (FunctionMeaning f) x none (TypeMeaning q) = inr (λ h. cc, refl)
found_then s (FunctionMeaning f) x none (TermMeaning q) = inr (λ h. cc, refl)
found_then s (TermMeaning t) x none (TypeMeaning q) = inr (λ h. cc, refl)
found_then s (TermMeaning t) x none (FunctionMeaning q) = inr (λ h. cc, refl)

-- how many names there are of each kind
pub record Counts (names : NodeNames) (s : Tables) : Type 0 where
  pub terms : names.terms ≡ length s.terms
  pub types : names.types ≡ length s.types
  pub functions : names.functions ≡ length s.functions

-- a name more
pub tables_entered : (n : Names) (new : NodeNames) (id : NodeId) (m : Meaning) (x : List ℕ) (s : Tables) → IsKept n.texts.texts.items new.texts.items (place_of id) x
    → meaning_in n.nodes id ≡ Some m → text_at n.texts id ≡ None → IsTrue (has_entry m) → Counts new (with_name s m x) → KeepTables n s → AreKept (enums_under n) n.nodes (kept_now new) (with_name s m x)
tables_entered n new id m x s is meant unkept entry counts are = record {
  names = λ k. go k (found_then s m x absent k);
  inline = λ other k y here none there.
      let apart : ¬ (k ≡ m) = λ e. false≢true (sym none ∙ ap has_entry e ∙ entry) in
      let stays : text_at new other ≡ text_at n.texts other = other_stays n id m x new is meant unkept other k here apart in
      text_stays (enums_under n) s (with_name s m x) k y none (names_stay s m x) (are.inline other k y here none (sym stays ∙ there));
  terms = counts.terms;
  types = counts.types;
  functions = counts.functions;
}
  where
    absent : name_in s m ≡ None
    absent = sym (named_at n.nodes n.texts m (name_in s m) id (are.names m) meant entry) ∙ unkept

    go : (k : Meaning) → FoundIn s m x k → HasName n.nodes new k (name_in (with_name s m x) k)
    go k (inl (same, found)) =
        subst (λ (o : Option (List ℕ)). HasName n.nodes new k o) (sym found) (id, meant ∙ ap (λ q. Some q) (sym same), subst (λ (q : Meaning). IsTrue (has_entry q)) (sym same) entry, is.here)
    go k (inr (apart, found)) = subst (λ (o : Option (List ℕ)). HasName n.nodes new k o) (sym found) (name_stays n id m x new is meant unkept k (name_in s k) apart (are.names k))

-- one term more, one type more, and one function more
pub term_counted : (n : Names) (new : NodeNames) (t : PlainTerm) (x : List ℕ) (s : Tables) → new.terms ≡ n.texts.terms + 1 → new.types ≡ n.texts.types → new.functions ≡ n.texts.functions → KeepTables n s → Counts new (with_name s (TermMeaning t) x)
term_counted n new t x s one types functions are = record {
  terms = one ∙ ap (λ k. k + 1) are.terms ∙ sym (length-append s.terms ((t, x) ∷ []));
  types = types ∙ are.types;
  functions = functions ∙ are.functions;
}

pub type_counted : (n : Names) (new : NodeNames) (t : PlainType) (x : List ℕ) (s : Tables) → new.terms ≡ n.texts.terms → new.types ≡ n.texts.types + 1 → new.functions ≡ n.texts.functions → KeepTables n s → Counts new (with_name s (TypeMeaning t) x)
type_counted n new t x s terms one functions are = record {
  terms = terms ∙ are.terms;
  types = one ∙ ap (λ k. k + 1) are.types ∙ sym (length-append s.types ((t, x) ∷ []));
  functions = functions ∙ are.functions;
}

pub function_counted : (n : Names) (new : NodeNames) (f : PlainFunction) (x : List ℕ) (s : Tables) → new.terms ≡ n.texts.terms → new.types ≡ n.texts.types → new.functions ≡ n.texts.functions + 1 → KeepTables n s → Counts new (with_name s (FunctionMeaning f) x)
function_counted n new f x s terms types one are = record {
  terms = terms ∙ are.terms;
  types = types ∙ are.types;
  functions = one ∙ ap (λ k. k + 1) are.functions ∙ sym (length-append s.functions ((f, x) ∷ []));
}

-- the text of what has no entry
pub tables_kept : (n : Names) (new : NodeNames) (id : NodeId) (m : Meaning) (x : List ℕ) (s : Tables) → IsKept n.texts.texts.items new.texts.items (place_of id) x
    → meaning_in n.nodes id ≡ Some m → text_at n.texts id ≡ None → has_entry m ≡ false → IsText (enums_under n) s m x → new.terms ≡ n.texts.terms → new.types ≡ n.texts.types → new.functions ≡ n.texts.functions
    → KeepTables n s → AreKept (enums_under n) n.nodes (kept_now new) s
tables_kept n new id m x s is meant unkept none text terms types functions are = record {
  names = λ q. go q (has_entry q) refl (name_in s q) (are.names q);
  inline = λ other k y h plain there. inlined other k y h plain there (eqb_tells (place_of other) (place_of id));
  terms = terms ∙ are.terms;
  types = types ∙ are.types;
  functions = functions ∙ are.functions;
}
  where
    go : (q : Meaning) (b : Bool) → has_entry q ≡ b → (o : Option (List ℕ)) → HasName n.nodes n.texts q o → HasName n.nodes new q o
    go q true e o h = name_stays n id m x new is meant unkept q o (λ f. false≢true (sym none ∙ ap has_entry (sym f) ∙ e)) h
    go q false e (Some y) (other, h, entry, there) = absurd (false≢true (sym e ∙ entry))
    go q false e None h = λ other k entry. absurd (false≢true (sym e ∙ entry))

    inlined : (other : NodeId) (k : Meaning) (y : List ℕ) → meaning_in n.nodes other ≡ Some k → has_entry k ≡ false → text_at new other ≡ Some y
        → ((eqb (place_of other) (place_of id) ≡ true) × (place_of other ≡ place_of id)) ⊎ ((eqb (place_of other) (place_of id) ≡ false) × ¬ (place_of other ≡ place_of id)) → IsText (enums_under n) s k y
    inlined other k y h plain there (inl at) =
        let one : k ≡ m = at_one_place n.nodes other id k m at.1 h meant in
        let here : kept_at new.texts.items (place_of other) ≡ Some x = ap (kept_at new.texts.items) at.1 ∙ is.here in
        let known : x ≡ y = cc in
        subst (λ (z : List ℕ). IsText (enums_under n) s k z) known (subst (λ (j : Meaning). IsText (enums_under n) s j x) (sym one) text)
    inlined other k y h plain there (inr apart) = are.inline other k y h plain (sym (is.others (place_of other) apart.1) ∙ there)

-- the name of what a number stands for, and of what none stands for
pub name_found : (i : Interner) (names : NodeNames) (m : Meaning) (id : NodeId) (o : Option (List ℕ)) → meaning_in i id ≡ Some m → IsTrue (has_entry m) → text_at names id ≡ o → HasName i names m o
name_found i names m id (Some x) meant entry there = (id, meant, entry, there)
name_found i names m id None meant entry there = λ other h e. ap (text_at names) (one_id i other id m h meant) ∙ there

pub none_found : (i : Interner) (names : NodeNames) (m : Meaning) → ((id : NodeId) → meaning_in i id ≡ Some m → ⊥) → HasName i names m None
none_found i names m none = λ id h e. absurd (none id h)

pub no_name : (i : Interner) (names : NodeNames) (m : Meaning) → has_entry m ≡ false → HasName i names m None
no_name i names m none = λ id h e. absurd (false≢true (sym none ∙ e))

-- ---- tables alone, and those of no text

pub names_alone : (n : Names) (s : Tables) → KeepTables n s → AreTables n s
names_alone n s k = record { names = k.names; terms = k.terms; types = k.types; functions = k.functions }

pub none_at : (names : NodeNames) → HasNoTexts names → (id : NodeId) → text_at names id ≡ None
none_at names none id = go (text_at names id) (none id)
  where
    go : (o : Option (List ℕ)) → IsTrue (is_none o) → o ≡ None
    go None h = refl
    go (Some x) h = absurd (false≢true h)

pub no_tables_kept : (enums : Enums) (nodes : Interner) (names : NodeNames) → HasNoTexts names → AreKept enums nodes (kept_now names) no_names
no_tables_kept enums nodes names unwritten =
    let at = none_at names unwritten in
    let none = kept.none_kept names.texts.items (λ i. at (record { place = i })) in
    let few = counted names in
    record {
      names = λ m. nothing m (λ id h entry. at id);
      inline = λ id m text h e there. absurd (no_text (sym (at id) ∙ there));
      terms = omega (arith, none, few);
      types = omega (arith, none, few);
      functions = omega (arith, none, few);
    }
  where
    -- the empty tables have no name
    nothing : (m : Meaning) → HasName nodes names m None → HasName nodes names m (name_in no_names m)
    nothing (TypeMeaning t) h = h
    nothing (FunctionMeaning f) h = h
    nothing (TermMeaning t) h = h

    no_text : {A : Type 0} {x : A} → ◌≡◌ {A = Option A} None (Some x) → ⊥
    no_text e = cc

pub no_tables : (n : Names) → HasNoTexts n.texts → KeepTables n no_names
no_tables n = no_tables_kept (enums_under n) n.nodes n.texts
