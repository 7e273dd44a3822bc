-- Entries whose names are drawn have names of their own.
use Rattle.std.proofs.Common.{◌≡◌, ℕ, suc, ◌<◌, Bool, true, false, cond, List, [], ◌∷◌, length, refl, sym, ap, ap₂, ◌∙◌, subst, inl, inr, Option, Some, None, arith}
use Rattle.std.specs.Prelude.{bytes_eq, codes, nat_lt, is_none, IsSome}
use Rattle.std.specs.Map.{lookup}
use Rattle.std.proofs.lemmas.Bool.{false≢true, ltb-true, lt-ltb}
use Rattle.std.proofs.lemmas.List.{append_cancel_left}
use Rattle.std.proofs.lemmas.Slice.Eq.{bytes_eq-Decides}
use Rattle.law_terms.specs.Plain.{ExtensionKind, PlainType, EntityType, ExtensionType, BitVecLiteral, BoolLiteral, EntityLiteral, ExtensionLiteral, StringLiteral, PlainTerm, Application, NoneTerm, LiteralTerm, RecordTerm, SetTerm, SomeTerm, VariableTerm}
use Rattle.law_terms.specs.TypeValues.{Enums, members_of}
use Rattle.law_terms.specs.Types.{type_eq}
use Rattle.law_terms.proofs.TermTotal.{types_decided}
use Rattle.law_scripts.proofs.Numerals.{numerals_differ}
use Rattle.law_lines.specs.Spelling.{numeral}
use Rattle.law_lines.specs.EntryNames.{member_name, place_of, kind_name, stated_entity_name, stated_term_name, enum_member, stated_type_name}
use Rattle.law_scripts.specs.Numerals.{numbered}
use Rattle.law_lines.specs.Lines.{Rendering, AsApplication, AsEqualsIntMin, AsFalse, application_rendering}
use Rattle.law_lines.specs.NameTables.{Tables, no_names, name_of_type}
use Rattle.law_lines.specs.Naming.{type_name, HasEntry, HasDistinctNames}
use Rattle.law_lines.specs.Entries.{EachEntry, AreNumbered, undrawn_entity, undrawn_rendering}
use Rattle.law_lines.specs.TableGrowth.{is_drawn, AreDrawn}
use Rattle.law_lines.specs.Fit.{drawn_number, first}
use Rattle.law_lines.proofs.Basic.{leads_numeral}
use Rattle.law_lines.proofs.Differ.{terms_differ, types_differ, functions_differ}
use Rattle.law_lines.proofs.Known.{each_found}
use Rattle.law_theorem.proofs.Named.{some_there}
use Rattle.law_theorem.specs.Fits.{IsMemberName, IsNamedRightly, DrawnNamesDiffer}

-- ---- names of members

letters : ◌≡◌ {A = ℕ} 116 69 → ⊥
letters z = omega arith

same_members : (k l i j : ℕ) → member_name (stated_entity_name k) i ≡ member_name (stated_entity_name l) j → (k ≡ l) × (i ≡ j)
same_members k l i j e =
    let a : k ≡ l = sym (leads_numeral k (95 ∷ 109 ∷ numeral i) refl) ∙ ap drawn_number e ∙ leads_numeral l (95 ∷ 109 ∷ numeral j) refl in
    let f : member_name (stated_entity_name l) i ≡ member_name (stated_entity_name l) j = ap (λ m. member_name (stated_entity_name m) i) (sym a) ∙ e in
    let g : numbered (codes "_m") i ≡ numbered (codes "_m") j = append_cancel_left (stated_entity_name l) (numbered (codes "_m") i) (numbered (codes "_m") j) f in
    (a, numerals_differ i j (append_cancel_left (codes "_m") (numeral i) (numeral j) g))

same_place : (ms : List (List ℕ)) (a b : List ℕ) → nat_lt (place_of a ms) (length ms) ≡ true → place_of a ms ≡ place_of b ms → a ≡ b
same_place [] a b h e = absurd (let z = ltb-true 0 0 h in omega arith)
same_place (m ∷ ms) a b h e = by (bytes_eq a m) (bytes_eq b m) refl refl (same_place ms a b) h e
  where
    by : (p q : Bool) → bytes_eq a m ≡ p → bytes_eq b m ≡ q → (nat_lt (place_of a ms) (length ms) ≡ true → place_of a ms ≡ place_of b ms → a ≡ b) → nat_lt (cond p 0 (suc (place_of a ms))) (length (m ∷ ms)) ≡ true → cond p 0 (suc (place_of a ms)) ≡ cond q 0 (suc (place_of b ms)) → a ≡ b
    by true true f g again h e = (bytes_eq-Decides a m).0 f ∙ sym ((bytes_eq-Decides b m).0 g)
    by true false f g again h e = absurd (omega arith)
    by false true f g again h e = absurd (omega arith)
    by false false f g again h e =
        let less : suc (place_of a ms) < suc (length ms) = ltb-true (suc (place_of a ms)) (suc (length ms)) h in
        again (lt-ltb (place_of a ms) (length ms) (omega arith)) (omega arith)

in_entries : {K : Type 0} (P : K → List ℕ → Type 0) (es : List (K × List ℕ)) (k : K) (n : List ℕ) → EachEntry P es → HasEntry es k n → P k n
in_entries P [] k n h p = absurd p
in_entries P (e ∷ es) k n h (inl p) = subst (λ m. P k m) p.1 (subst (λ l. P l e.1) p.0 h.0)
in_entries P (e ∷ es) k n h (inr p) = in_entries P es k n h.1 p

numbers : (start : ℕ) (es : List (PlainType × List ℕ)) → AreNumbered stated_type_name start es → EachEntry (λ t n. (k : ℕ) × (n ≡ stated_type_name t k)) es
numbers start [] h = tt
numbers start (e ∷ es) h = ((start, h.0), numbers (suc start) es h.1)

drawn_as : (enums : Enums) (start : ℕ) (es : List (PlainTerm × List ℕ)) → AreDrawn enums start es → EachEntry (λ t n. is_drawn enums t ≡ true → (k : ℕ) × (n ≡ stated_term_name k)) es
drawn_as enums start [] h = tt
drawn_as enums start (e ∷ es) h = ((λ d. (start, h.0 d)), drawn_as enums (suc start) es h.1)

module _ {K : Type 0} (test : K → Bool) (k : K) (sound : (x : K) → test x ≡ true → k ≡ x) where
  entry_found : (es : List (K × List ℕ)) (n : List ℕ) → lookup test es ≡ Some n → HasEntry es k n
  entry_found [] n h = absurd cc
  entry_found (e ∷ es) n h = by (test e.0) refl h (entry_found es n)
    where
      by : (b : Bool) → test e.0 ≡ b → cond b (Some e.1) (lookup test es) ≡ Some n → (lookup test es ≡ Some n → HasEntry es k n) → HasEntry (e ∷ es) k n
      by true f g again = inl (sym (sound e.0 f), (let z : e.1 ≡ n = cc in z))
      by false f g again = inr (again g)

-- what an undrawn entry is
record IsMember (enums : Enums) (s : Tables) (t : PlainTerm) (n : List ℕ) : Type 0 where
  type : List ℕ
  id : List ℕ
  members : List (List ℕ)
  is : t ≡ LiteralTerm (EntityLiteral type id)
  has : members_of enums type ≡ Some members
  number : ℕ
  typed : name_of_type s (EntityType type) ≡ Some (stated_entity_name number)
  named : n ≡ enum_member members (stated_entity_name number) id
  within : nat_lt (place_of id members) (length members) ≡ true

module _ (enums : Enums) (s : Tables) (numbered_types : EachEntry (λ t n. (k : ℕ) × (n ≡ stated_type_name t k)) s.types) where
  typed_number : (type : List ℕ) (n : List ℕ) → name_of_type s (EntityType type) ≡ Some n → (k : ℕ) × (n ≡ stated_entity_name k)
  typed_number type n h = each_found (λ t n. (k : ℕ) × (n ≡ stated_type_name t k)) (type_eq (EntityType type)) (EntityType type) (λ l q. (types_decided (EntityType type) l).0 q) s.types n h numbered_types

  entity_member : (o : Option (List (List ℕ))) (type id n : List ℕ) → members_of enums type ≡ o → IsMemberName o s type id n → is_none (undrawn_entity o type id no_names) ≡ false → IsMember enums s (LiteralTerm (EntityLiteral type id)) n
  entity_member None type id n e g d = absurd (false≢true (sym d))
  entity_member (Some ms) type id n e g d =
      let k = typed_number type (type_name s (EntityType type)) g.0 in
      record {
        type = type;
        id = id;
        members = ms;
        is = refl;
        has = e;
        number = k.0;
        typed = g.0 ∙ ap (λ (m : List ℕ). Some m) k.1;
        named = g.1 ∙ ap (λ m. enum_member ms m id) k.1;
        within = g.2;
      }

  rendered_false : (m : Rendering) → is_none (undrawn_rendering m) ≡ false → m ≡ AsFalse
  rendered_false AsApplication h = absurd (false≢true (sym h))
  rendered_false (AsEqualsIntMin w) h = absurd (false≢true (sym h))
  rendered_false AsFalse h = refl

  member : (t : PlainTerm) (n : List ℕ) → IsNamedRightly enums s t n → is_drawn enums t ≡ false → IsMember enums s t n
  member (LiteralTerm (EntityLiteral type id)) n g d = entity_member (members_of enums type) type id n refl g d
  member (LiteralTerm (BitVecLiteral w m)) n g d = absurd (false≢true (sym d))
  member (LiteralTerm (BoolLiteral b)) n g d = absurd (false≢true (sym d))
  member (LiteralTerm (StringLiteral x)) n g d = absurd (false≢true (sym d))
  member (LiteralTerm (ExtensionLiteral x)) n g d = absurd (false≢true (sym d))
  member (Application op ts type) n g d = absurd (g (rendered_false (application_rendering op ts type) d))
  member (NoneTerm type) n g d = absurd (false≢true (sym d))
  member (RecordTerm x) n g d = absurd (false≢true (sym d))
  member (SetTerm t ts) n g d = absurd (false≢true (sym d))
  member (SomeTerm t) n g d = absurd (false≢true (sym d))
  member (VariableTerm id type) n g d = absurd (false≢true (sym d))

  apart : (t : PlainTerm) (n : List ℕ) → (k : ℕ) × (n ≡ stated_term_name k) → IsMember enums s t n → ⊥
  apart t n k m =
      let e : stated_term_name k.0 ≡ member_name (stated_entity_name m.number) (place_of m.id m.members) = sym k.1 ∙ m.named in
      let z : 116 ≡ 69 = ap first e in
      letters z

  members_differ : HasDistinctNames s.types → (t u : PlainTerm) (n : List ℕ) → IsMember enums s t n → IsMember enums s u n → t ≡ u
  members_differ d t u n a b =
      let q = same_members a.number b.number (place_of a.id a.members) (place_of b.id b.members) (sym a.named ∙ b.named) in
      let x = entry_found (type_eq (EntityType a.type)) (EntityType a.type) (λ l e. (types_decided (EntityType a.type) l).0 e) s.types (stated_entity_name a.number) a.typed in
      let y = entry_found (type_eq (EntityType b.type)) (EntityType b.type) (λ l e. (types_decided (EntityType b.type) l).0 e) s.types (stated_entity_name a.number) (b.typed ∙ ap (λ k. Some (stated_entity_name k)) (sym q.0)) in
      let same : EntityType a.type ≡ EntityType b.type = d (stated_entity_name a.number) (EntityType a.type) (EntityType b.type) x y in
      let types : a.type ≡ b.type = cc in
      let some : ◌≡◌ {A = Option (List (List ℕ))} (Some a.members) (Some b.members) = sym a.has ∙ ap (members_of enums) types ∙ b.has in
      let ms : a.members ≡ b.members = cc in
      let id : a.id ≡ b.id = same_place a.members a.id b.id a.within (q.1 ∙ ap (place_of b.id) (sym ms)) in
      a.is ∙ ap₂ (λ (x y : List ℕ). LiteralTerm (EntityLiteral x y)) types id ∙ sym b.is

pub drawn_names_differ : DrawnNamesDiffer
drawn_names_differ enums u d =
    let types_so : HasDistinctNames u.types = types_differ u.types d.types in
    let counted : EachEntry (λ t n. (k : ℕ) × (n ≡ stated_type_name t k)) u.types = numbers 0 u.types d.types in
    record {
      terms = λ n t v p q. pick counted types_so n t v p q (is_drawn enums t) (is_drawn enums v) refl refl;
      types = types_so;
      functions = functions_differ u.functions d.functions;
    }
  where
    pick : EachEntry (λ t n. (k : ℕ) × (n ≡ stated_type_name t k)) u.types → HasDistinctNames u.types
        → (n : List ℕ) (t v : PlainTerm) → HasEntry u.terms t n → HasEntry u.terms v n → (a b : Bool) → is_drawn enums t ≡ a → is_drawn enums v ≡ b → t ≡ v
    pick counted types_so n t v p q true true e f = terms_differ enums u.terms d.terms n t v e f p q
    pick counted types_so n t v p q true false e f =
        absurd (apart enums u counted v n (in_entries _ u.terms t n (drawn_as enums 0 u.terms d.terms) p e) (member enums u counted v n (in_entries (IsNamedRightly enums u) u.terms v n d.members q) f))
    pick counted types_so n t v p q false true e f =
        absurd (apart enums u counted t n (in_entries _ u.terms v n (drawn_as enums 0 u.terms d.terms) q f) (member enums u counted t n (in_entries (IsNamedRightly enums u) u.terms t n d.members p) e))
    pick counted types_so n t v p q false false e f =
        members_differ enums u counted types_so t v n (member enums u counted t n (in_entries (IsNamedRightly enums u) u.terms t n d.members p) e) (member enums u counted v n (in_entries (IsNamedRightly enums u) u.terms v n d.members q) f)

-- A type of an extension has its kind's name.
pub kinds_named : (s : Tables) → AreNumbered stated_type_name 0 s.types → (kind : ExtensionKind) → IsSome (name_of_type s (ExtensionType kind)) → type_name s (ExtensionType kind) ≡ kind_name kind
kinds_named s h kind k =
    let e = some_there (name_of_type s (ExtensionType kind)) k in
    (each_found (λ t n. (i : ℕ) × (n ≡ stated_type_name t i)) (type_eq (ExtensionType kind)) (ExtensionType kind) (λ l q. (types_decided (ExtensionType kind) l).0 q) s.types (type_name s (ExtensionType kind)) e (numbers 0 s.types h)).1
