-- Names keep what their commands give them.
use Rattle.std.proofs.Common.{◌≡◌, ◌⊎◌, ℕ, Bool, true, false, cond, List, map, refl, sym, ◌∙◌, subst, inl, inr, Some}
use Rattle.std.specs.Prelude.{bytes_eq}
use Rattle.std.proofs.lemmas.Slice.Eq.{bytes_eq-Decides}
use Rattle.law_texts.specs.Reading.{Expression}
use Rattle.law_scripts.specs.Script.{Entry, Constant, Defined, State, name, start, built_in_names, is_in, knows, names_of, look_up, with_name}
use Rattle.law_scripts.specs.Sorts.{entries, expression_sort}
use Rattle.law_scripts.specs.Value.{ScriptInterpretation, expression_value}
use Rattle.law_scripts.specs.Meanings.{is_own}
use Rattle.law_scripts.proofs.CommandInduction.{Change, AddsName, changed, IsAllowed, Any, script_has}
use Rattle.law_scripts.proofs.Keeps.{changes_keep_values, new_name}
use Rattle.law_scripts.proofs.Results.{or_right}
use Rattle.law_theorem.specs.TextValues.{NamesLast, ScriptNamesLast}
use Rattle.law_theorem.proofs.OrderedEntries.{is_new, listed_if}

pub some_entry : (x y : Entry) → Some x ≡ Some y → x ≡ y
some_entry x y h = cc

-- what a name stands for beside a new one: it is the new one, or was there
old_or_new : (s : State) (n : List ℕ) (x : Entry) (m : List ℕ) (y : Entry) → entries (with_name n x s) m ≡ Some y → (entries s m ≡ Some y) ⊎ ((n ≡ m) × (y ≡ x))
old_or_new s n x m y h = by (bytes_eq m n) refl h
  where
    by : (b : Bool) → bytes_eq m n ≡ b → cond b (Some x) (look_up m (names_of s)) ≡ Some y → (entries s m ≡ Some y) ⊎ ((n ≡ m) × (y ≡ x))
    by true e k = inr (sym ((bytes_eq-Decides m n).0 e), sym (some_entry x y k))
    by false e k = inl k

knows_name : (s : State) (n : List ℕ) (x : Entry) → entries s n ≡ Some x → knows s (name n) ≡ true
knows_name s n x h = or_right (is_in n built_in_names) (is_in n (map (λ p. p.0) (names_of s))) (listed_if n (names_of s) x h)

module _ (j : ScriptInterpretation) where
  abbrev HasBody : State → List ℕ → Expression → Expression → Type 0
  HasBody s n sort body = (knows s body ≡ true) × (expression_value j s (name n) ≡ expression_value j s body) × (expression_sort s (name n) ≡ Some sort)

  abbrev HasValue : State → List ℕ → Expression → Type 0
  HasValue s n sort = (expression_value j s (name n) ≡ Some (j.constants n)) × (expression_sort s (name n) ≡ Some sort)

  -- ---- a new name

  new_body : (n : List ℕ) (sort body : Expression) (s : State) → IsAllowed s (AddsName n (Defined sort body)) → HasBody (with_name n (Defined sort body) s) n sort body
  new_body n sort body s allowed =
      let kept = changes_keep_values j (AddsName n (Defined sort body)) s body allowed allowed.1.1 in
      let new = new_name j n (Defined sort body) s allowed.0 in
      (kept.0, new.value ∙ sym kept.1, new.sort)

  new_constant : (n : List ℕ) (sort : Expression) (s : State) → IsAllowed s (AddsName n (Constant sort)) → HasValue (with_name n (Constant sort) s) n sort
  new_constant n sort s allowed = let new = new_name j n (Constant sort) s allowed.0 in (new.value, new.sort)

  name_lasts : (n : List ℕ) (x : Entry) (s : State) → IsAllowed s (AddsName n x) → NamesLast j s → NamesLast j (with_name n x s)
  name_lasts n x s allowed old =
      let t = with_name n x s in
      let kept = λ (e : Expression). changes_keep_values j (AddsName n x) s e allowed in
      let beside = old_or_new s n x in
      record {
        own = λ m y g. elim (beside m y g) [ inl q ↦ old.own m y q | inr q ↦ subst (λ (l : List ℕ). is_own l ≡ true) q.0 (is_new s n allowed.0).0 ];
        bodies = λ m sort body g. elim (beside m (Defined sort body) g) [
          | inl q ↦ (let was = old.bodies m sort body q in
              let b = kept body was.0 in
              let now = kept (name m) (knows_name s m (Defined sort body) q) in
              (b.0, now.1 ∙ was.1 ∙ sym b.1, now.2 ∙ was.2))
          | inr q ↦ (let is : (y : Entry) → Defined sort body ≡ y → IsAllowed s (AddsName n y) → HasBody (with_name n y s) n sort body =
              λ y e. subst (λ (z : Entry). IsAllowed s (AddsName n z) → HasBody (with_name n z s) n sort body) e (new_body n sort body s) in
              subst (λ (l : List ℕ). HasBody t l sort body) q.0 (is x q.1 allowed))
        ];
        constants = λ m sort g. elim (beside m (Constant sort) g) [
          | inl q ↦ (let was = old.constants m sort q in
              let now = kept (name m) (knows_name s m (Constant sort) q) in
              (now.1 ∙ was.0, now.2 ∙ was.1))
          | inr q ↦ (let is : (y : Entry) → Constant sort ≡ y → IsAllowed s (AddsName n y) → HasValue (with_name n y s) n sort =
              λ y e. subst (λ (z : Entry). IsAllowed s (AddsName n z) → HasValue (with_name n z s) n sort) e (new_constant n sort s) in
              subst (λ (l : List ℕ). HasValue t l sort) q.0 (is x q.1 allowed))
        ];
      }

  -- ---- each change

  still_last : (x : Change) (s : State) → Any s x → IsAllowed s x → NamesLast j s → NamesLast j (changed x s)
  still_last (AddsName n x) s a allowed old = name_lasts n x s allowed old
  still_last x s a allowed old = record {
    own = old.own;
    bodies = λ n sort body g. (let was = old.bodies n sort body g in ((changes_keep_values j x s body allowed was.0).0, was.1, was.2));
    constants = old.constants;
  }

  none_there : (n : List ℕ) (x : Entry) → entries start n ≡ Some x → ⊥
  none_there n x h = cc

  start_lasts : NamesLast j start
  start_lasts = record {
    own = λ n x h. absurd (none_there n x h);
    bodies = λ n sort body h. absurd (none_there n (Defined sort body) h);
    constants = λ n sort h. absurd (none_there n (Constant sort) h);
  }

-- Names last in each script.
pub script_names_last : ScriptNamesLast
script_names_last text state j x = script_has (NamesLast j) (start_lasts j) (still_last j) text state x
