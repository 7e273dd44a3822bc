-- What a check and `get-model` are answered.
use Rattle.std.proofs.Common.{◌≡◌, ℕ, zero, suc, ◌<◌, ◌≤◌, Bool, true, false, ◌&&◌, not, List, [], ◌∷◌, Option, Some, None, Result, Ok, Err, length, get_or, bytes_eq, codes, option_map, refl, sym, ap, ap₂, ◌∙◌, subst, arith}
use Rattle.std.specs.Prelude.{IfOk, nat_le}
use Rattle.std.specs.List.{list_all}
use Rattle.std.specs.declared.alloc.Global.{Global}
use Rattle.std.specs.declared.vec.Vec.{Vec}
use Rattle.std.proofs.lemmas.Bool.{and_parts, cond-false, cond-true, false≢true, or_parts, not-true}
use Rattle.std.proofs.lemmas.Slice.Eq.{bytes_eq-Decides}
use Rattle.law_texts.specs.Reading.{Expression}
use Rattle.law_scripts.specs.Script.{State, are_distinct, assertions_of, is_in}
use Rattle.law_scripts.specs.Value.{expression_value}
use Rattle.law_verdicts.specs.FirstModel.{constants_of, first_model, first_such, given, is_model, is_true, model_of, truth_at}
use Rattle.law_verdicts.specs.Machine.{Line, Model, is_found, model_text, most_constants, shows, verdict, word_for}
use Rattle.smt_mini.specs.Gates.{gate_truth}
use Rattle.smt_mini.specs.Levels.{StandFor}
use Rattle.smt_mini.specs.Replies.{plain_reply}
use Rattle.smt_mini.specs.Search.{all_hold}
use Rattle.smt_mini.specs.Stands.{IsShown, Stands, StandsIn, behind_check, model_or_none}
use Rattle.smt_mini.specs.Tables.{Agrees, Fits, HaveValues, Table}
use Rattle.smt_mini.specs.declared.error.MiniError.{MiniError}
use Rattle.smt_mini.specs.declared.mini.Mini.{Mini}
use Rattle.smt_mini.specs.declared.mini.Phase.TheVariants.{Inside}
use Rattle.smt_mini.specs.declared.reply.Reply.{Reply}
use Rattle.smt_mini.proofs.Fitting.{not_same}
use Rattle.law_verdicts.proofs.TruthRows.{same_such}

-- ---- truths by place and by name

not_first : (c : List ℕ) (cs : List (List ℕ)) (k : ℕ) → k < length cs → is_in c cs ≡ false → bytes_eq (get_or cs k []) c ≡ false
not_first c [] k l h = absurd (omega (arith, l))
not_first c (d ∷ cs) zero l h = not_same d c (or_parts (bytes_eq c d) (is_in c cs) h).0
not_first c (d ∷ cs) (suc k) l h = not_first c cs k (omega (arith, l)) (or_parts (bytes_eq c d) (is_in c cs) h).1

truth_by_place : (cs : List (List ℕ)) (bs : List Bool) (k : ℕ) → are_distinct cs ≡ true → k < length cs → truth_at cs bs (get_or cs k []) ≡ get_or bs k false
truth_by_place [] bs k d l = absurd (omega (arith, l))
truth_by_place (c ∷ cs) [] k d l = refl
truth_by_place (c ∷ cs) (b ∷ bs) zero d l = cond-true (bytes_eq c c) b (truth_at cs bs c) ((bytes_eq-Decides c c).1 refl)
truth_by_place (c ∷ cs) (b ∷ bs) (suc k) d l =
    let p = and_parts (not (is_in c cs)) (are_distinct cs) d in
    let m : k < length cs = omega (arith, l) in
    cond-false (bytes_eq (get_or cs k []) c) b (truth_at cs bs (get_or cs k [])) (not_first c cs k m (not-true (is_in c cs) p.0)) ∙ truth_by_place cs bs k p.1 m

-- ---- models

each_true : (t : Table) (s : State) (cs : List (List ℕ)) (bs : List Bool) (at : ℕ → Bool) → Agrees (truth_at cs bs) at t.constants → (es : List Expression) (ps : List ℕ) → HaveValues t s es ps
    → list_all (gate_truth at t.gates) ps ≡ list_all (λ e. is_true (expression_value (given cs bs) s e)) es
each_true t s cs bs at a [] [] h = refl
each_true t s cs bs at a [] (p ∷ ps) h = absurd h
each_true t s cs bs at a (e ∷ es) [] h = absurd h
each_true t s cs bs at a (e ∷ es) (p ∷ ps) h = ap₂ (λ x y. x && y) (sym (ap is_true (h.0.value (truth_at cs bs) at a))) (each_true t s cs bs at a es ps h.1)

model_by_gates : (t : Table) (s : State) (bs : List Bool) → Fits t s → all_hold t.gates t.assertions bs ≡ is_model (model_of s bs) s
model_by_gates t s bs f =
    each_true t s (constants_of s) bs (λ k. get_or bs k false) (subst (λ cs. Agrees (truth_at cs bs) (λ k. get_or bs k false) t.constants) f.constants (λ k l. truth_by_place t.constants bs k f.distinct l)) (assertions_of s) t.assertions f.assertions

pub search_is : (t : Table) (s : State) → Fits t s → first_such (length t.constants) (all_hold t.gates t.assertions) ≡ first_model s
search_is t s f =
    ap (λ cs. first_such (length cs) (all_hold t.gates t.assertions)) f.constants
    ∙ same_such (length (constants_of s)) (all_hold t.gates t.assertions) (λ bs. is_model (model_of s bs) s) (λ bs. model_by_gates t s bs f)

-- ---- checks

above_most : (n : ℕ) → most_constants < n → nat_le n most_constants ≡ false
above_most n l = grind (arith, l)

at_most : (n : ℕ) → n ≤ most_constants → nat_le n most_constants ≡ true
at_most n l = grind (arith, l)

stands_behind : (new : Mini) (s : State) → new.phase ≡ Inside → s.ended ≡ false → StandFor new.levels s → IsShown new.shown (shows s) s → Stands new (behind_check s)
stands_behind new s p e h k = subst (λ x. StandsIn x new (behind_check s)) (sym p) (refl, e, k, h)

answered_with : (new : Mini) (s : State) (r : Result Reply MiniError) (text : List ℕ) → IfOk r (λ reply. plain_reply reply ≡ Line text) → text ≡ verdict s → Stands new (behind_check s) → IfOk r (λ reply. (plain_reply reply ≡ Line (verdict s)) × Stands new (behind_check s))
answered_with new s (Ok reply) text h e k = (h ∙ ap Line e, k)
answered_with new s (Err error) text h e k = tt

pub many_checked : (new : Mini) (s : State) (t : Table) (r : Result Reply MiniError) → Fits t s → most_constants < length t.constants → new.phase ≡ Inside → new.shown ≡ None → s.ended ≡ false → StandFor new.levels s
    → IfOk r (λ reply. plain_reply reply ≡ Line (codes "unknown")) → IfOk r (λ reply. (plain_reply reply ≡ Line (verdict s)) × Stands new (behind_check s))
many_checked new s t r f l p o e h k =
    let many = above_most (length (constants_of s)) (omega (arith, l, ap length f.constants)) in
    let unknown = cond-false (nat_le (length (constants_of s)) most_constants) (word_for (first_model s)) (codes "unknown") many in
    let hidden = cond-false (nat_le (length (constants_of s)) most_constants) (is_found (first_model s)) false many in
    answered_with new s r (codes "unknown") k (sym unknown) (stands_behind new s p e h (subst (λ x. IsShown x (shows s) s) (sym o) hidden))

shown_truths : (found : Option (Vec Bool Global)) (s : State) → option_map (λ truths. truths.items) found ≡ first_model s → shows s ≡ is_found (first_model s) → IsShown found (shows s) s
shown_truths None s h k = k ∙ ap is_found (sym h)
shown_truths (Some truths) s h k = (k ∙ ap is_found (sym h), sym h)

pub few_checked : (new : Mini) (s : State) (t : Table) (r : Result Reply MiniError) (text : List ℕ) → Fits t s → length t.constants ≤ most_constants → new.phase ≡ Inside → option_map (λ truths. truths.items) new.shown ≡ first_model s → s.ended ≡ false → StandFor new.levels s
    → text ≡ word_for (option_map (λ truths. truths.items) new.shown) → IfOk r (λ reply. plain_reply reply ≡ Line text) → IfOk r (λ reply. (plain_reply reply ≡ Line (verdict s)) × Stands new (behind_check s))
few_checked new s t r text f l p o e h w k =
    let few = at_most (length (constants_of s)) (omega (arith, l, ap length f.constants)) in
    let word = cond-true (nat_le (length (constants_of s)) most_constants) (word_for (first_model s)) (codes "unknown") few in
    let shown = cond-true (nat_le (length (constants_of s)) most_constants) (is_found (first_model s)) false few in
    answered_with new s r text k (w ∙ ap word_for o ∙ sym word) (stands_behind new s p e h (shown_truths new.shown s o shown))

-- ---- models that are shown

pub model_shown : (s : State) (was : Bool) (t : Table) (truths : Vec Bool Global) (text : List ℕ) → Fits t s → IsShown (Some truths) was s → text ≡ model_text t.constants truths.items → Model text ≡ model_or_none was s
model_shown s false t truths text f h e = absurd (false≢true h.0)
model_shown s true t truths text f h e = rw h.1 (ap Model (e ∙ ap (λ cs. model_text cs truths.items) f.constants))
