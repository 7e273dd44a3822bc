-- Nodes written one after the other.
use Rattle.std.proofs.Common.{◌≡◌, ◌<◌, ◌≤◌, ◌+◌, ℕ, zero, suc, IsTrue, List, [], ◌∷◌, ◌++◌, length, drop, get_or, map, refl, sym, ap, ◌∙◌, subst, append_assoc, append-nil, add-one, arith, Option, Some, None}
use Rattle.std.specs.Prelude.{option_map}
use Rattle.std.specs.Rc.{rc_str_bytes}
use Rattle.std.specs.declared.alloc.Global.{Global}
use Rattle.std.specs.declared.rc.RcStr.{RcStr}
use Rattle.std.specs.Option.{option_or}
use Rattle.std.proofs.lemmas.List.{map-append}
use Rattle.law_texts.specs.Reading.{Expression}
use Rattle.law_terms.specs.Meanings.{all_found, found}
use Rattle.law_terms.specs.Nodes.{Meaning}
use Rattle.law_terms.proofs.Places.{map_back, then_back, some_same}
use Rattle.smt_nodes.specs.View.{place_of, places_of}
use Rattle.smt_nodes.specs.declared.id.NodeId.{NodeId}
use Rattle.law_lines.specs.Fit.{AreObeyable, IsObeyable}
use Rattle.law_lines.specs.Line.{Line}
use Rattle.law_lines.specs.Lines.{Enums, Written}
use Rattle.law_lines.specs.NameTables.{Tables}
use Rattle.law_lines.specs.Spelling.{spelled}
use Rattle.law_lines.proofs.Single.{no_step, steps_then}
use Rattle.smt_spelling.specs.NodeLines.{encode_meaning, encode_meanings, meaning_fault, meanings_fault}
use Rattle.smt_encode.specs.Complete.{AreTypedMeanings}
use Rattle.smt_spelling.specs.Whole.{is_typed}
use Rattle.smt_encode.specs.Steps.{HasTables, Wrote}
use Rattle.smt_encode.specs.Stopped.{AreObeyed, Stopped}
use Rattle.smt_spelling.specs.Spelled.{AreSpelled, IsSpelled}
use Rattle.smt_encode.specs.declared.error.WriteError.{WriteError}
use Rattle.smt_encode.specs.declared.writer.Writer.{Writer}
use Rattle.smt_encode.proofs.Lines.{nothing_written, wrote_then}
use Rattle.smt_encode.proofs.Stopping.{after_lines, stopped_behind}

-- what the number at a place of a list stands for, and what those behind it stand for
found_there : (ms : List (Option Meaning)) (ids : List NodeId) (ps : List Meaning) (i : ℕ) (d : NodeId) → all_found ms (places_of ids) ≡ Some ps → i < length ids
    → (m : Meaning) × (drop i ps ≡ m ∷ drop (suc i) ps) × (found ms (place_of (get_or ids i d)) ≡ Some m)
found_there ms [] ps i d h b = absurd (omega (arith, b))
found_there ms (id ∷ ids) ps i d h b =
    let (m, e, g) = then_back (λ m. option_map (λ more. m ∷ more) (all_found ms (places_of ids))) (found ms (place_of id)) ps h in
    let (more, f, same) = map_back (λ more. m ∷ more) (all_found ms (places_of ids)) ps g in
    subst P same (go i b m more (λ j. found_there ms ids more j d f) e)
  where
    P : List Meaning → Type 0
    P l = (k : Meaning) × (drop i l ≡ k ∷ drop (suc i) l) × (found ms (place_of (get_or (id ∷ ids) i d)) ≡ Some k)

    go : (i : ℕ) → i < length (id ∷ ids) → (m : Meaning) (more : List Meaning) → ((j : ℕ) → j < length ids → (k : Meaning) × (drop j more ≡ k ∷ drop (suc j) more) × (found ms (place_of (get_or ids j d)) ≡ Some k))
        → found ms (place_of id) ≡ Some m → (k : Meaning) × (drop i (m ∷ more) ≡ k ∷ drop (suc i) (m ∷ more)) × (found ms (place_of (get_or (id ∷ ids) i d)) ≡ Some k)
    go zero b m more later e = (m, refl, e)
    go (suc i) b m more later e = later i (omega (arith, b))

pub at_found : (ms : List (Option Meaning)) (ids : List NodeId) (ps : List Meaning) (i : ℕ) (d : NodeId) → all_found ms (places_of ids) ≡ Some ps → i < length ids
    → (m : Meaning) × (drop i ps ≡ m ∷ drop (i + 1) ps) × (found ms (place_of (get_or ids i d)) ≡ Some m)
at_found ms ids ps i d h b =
    let (m, left, there) = found_there ms ids ps i d h b in
    (m, left ∙ ap (λ n. m ∷ drop n ps) (sym (add-one i)), there)

-- nothing is left behind the last
pub none_left : (ms : List (Option Meaning)) (ids : List NodeId) (ps : List Meaning) (i : ℕ) → all_found ms (places_of ids) ≡ Some ps → length ids ≤ i → drop i ps ≡ []
none_left ms [] ps i h b = nothing i ps (sym (some_same [] ps h))
  where
    nothing : (i : ℕ) (l : List Meaning) → l ≡ [] → drop i l ≡ []
    nothing zero [] e = refl
    nothing (suc i) [] e = refl
    nothing i (x ∷ l) e = absurd (cc)
none_left ms (id ∷ ids) ps zero h b = absurd (omega (arith, b))
none_left ms (id ∷ ids) ps (suc i) h b =
    let (m, e, g) = then_back (λ m. option_map (λ more. m ∷ more) (all_found ms (places_of ids))) (found ms (place_of id)) ps h in
    let (more, f, same) = map_back (λ more. m ∷ more) (all_found ms (places_of ids)) ps g in
    ap (drop (suc i)) (sym same) ∙ none_left ms ids more i f (omega (arith, b))

-- what was made and written before, and then this
abbrev pub behind_these : List Expression → List Line → Written (List Expression) → Written (List Expression)
behind_these made lines w = record { made = made ++ w.made; lines = lines ++ w.lines; tables = w.tables }

-- What was written so far and what is stated of the nodes that are left are what is stated of all. Where all are typed, the lines so
-- far can be obeyed.
pub record Going {S : Type 0} (contents : S → Option (List ℕ)) (enums : Enums) (first now : Writer S) (left all : List Meaning) (texts : List (RcStr Global)) (s : Tables) : Type 0 where
  pub tables : Tables
  pub lines : List Line
  pub made : List Expression
  pub wrote : Wrote contents first now lines tables
  pub shown : AreSpelled made texts
  pub whole : encode_meanings enums all s ≡ behind_these made lines (encode_meanings enums left tables)
  pub steps : AreTypedMeanings all → AreObeyable enums s lines tables

pub starts : {S : Type 0} {contents : S → Option (List ℕ)} {enums : Enums} (e : Writer S) (all : List Meaning) {texts : List (RcStr Global)} (s : Tables) → texts ≡ [] → HasTables e s → Going contents enums e e all all texts s
starts {enums = enums} e all s none has = record { tables = s; lines = []; made = []; wrote = nothing_written e s has; shown = ap (map rc_str_bytes) none; whole = refl; steps = λ typed. no_step enums s }

-- behind lines, a node's text and then those of the others
one_behind : (made : List Expression) (lines : List Line) (w : Written Expression) (v : Written (List Expression))
    → behind_these made lines (record { made = w.made ∷ v.made; lines = w.lines ++ (v.lines ++ []); tables = v.tables }) ≡ behind_these (made ++ w.made ∷ []) (lines ++ w.lines) v
one_behind made lines w v =
    let e : made ++ w.made ∷ v.made ≡ (made ++ w.made ∷ []) ++ v.made = sym (append_assoc made (w.made ∷ []) v.made) in
    let f : lines ++ (w.lines ++ (v.lines ++ [])) ≡ (lines ++ w.lines) ++ v.lines = rw append-nil (sym (append_assoc lines w.lines v.lines)) in
    λ i. record { made = e i; lines = f i; tables = v.tables }

-- what was written for one node, over the same enum types
pub same_enums : {S : Type 0} {contents : S → Option (List ℕ)} {now next : Writer S} (m : Meaning) (text : RcStr Global) (s : Tables) {those these : Enums} → those ≡ these
    → Wrote contents now next (encode_meaning those m s).lines (encode_meaning those m s).tables × IsSpelled (encode_meaning those m s).made text
    → Wrote contents now next (encode_meaning these m s).lines (encode_meaning these m s).tables × IsSpelled (encode_meaning these m s).made text
same_enums m text s same p = rw (sym same) p

-- one node more
pub goes_on : {S : Type 0} {contents : S → Option (List ℕ)} {enums : Enums} {first now next : Writer S} {left left' all : List Meaning} {texts texts' : List (RcStr Global)} {s : Tables} (m : Meaning) (text : RcStr Global)
    → left ≡ m ∷ left' → texts' ≡ texts ++ text ∷ [] → (g : Going contents enums first now left all texts s)
    → (Wrote contents now next (encode_meaning enums m g.tables).lines (encode_meaning enums m g.tables).tables × IsSpelled (encode_meaning enums m g.tables).made text)
    → (AreTypedMeanings all → IsObeyable enums g.tables (encode_meaning enums m g.tables))
    → Going contents enums first next left' all texts' s
goes_on {enums = enums} {left = left} {left'} {texts = texts} m text this more g p step =
    let w : Written Expression = encode_meaning enums m g.tables in
    record {
      tables = w.tables;
      lines = g.lines ++ w.lines;
      made = g.made ++ w.made ∷ [];
      wrote = wrote_then g.wrote p.0;
      shown = ap (map rc_str_bytes) more ∙ map-append rc_str_bytes texts (text ∷ []) ∙ (λ i. g.shown i ++ p.1 i ∷ []) ∙ sym (map-append spelled g.made (w.made ∷ []));
      whole = g.whole ∙ ap (λ l. behind_these g.made g.lines (encode_meanings enums l g.tables)) this ∙ one_behind g.made g.lines w (encode_meanings enums left' w.tables);
      steps = λ typed. steps_then enums (g.steps typed) (step typed);
    }

-- all nodes are written
pub record Done {S : Type 0} (contents : S → Option (List ℕ)) (enums : Enums) (first now : Writer S) (all : List Meaning) (texts : List (RcStr Global)) (s : Tables) : Type 0 where
  pub wrote : Wrote contents first now (encode_meanings enums all s).lines (encode_meanings enums all s).tables
  pub shown : AreSpelled (encode_meanings enums all s).made texts

pub ends : {S : Type 0} {contents : S → Option (List ℕ)} {enums : Enums} {first now : Writer S} {left all : List Meaning} {texts : List (RcStr Global)} {s : Tables} → left ≡ [] → Going contents enums first now left all texts s → Done contents enums first now all texts s
ends {contents = contents} {enums} {first} {now} {left} {all} {texts} {s} none g =
    let e : encode_meanings enums all s ≡ record { made = g.made; lines = g.lines; tables = g.tables } =
    g.whole ∙ ap (λ l. behind_these g.made g.lines (encode_meanings enums l g.tables)) none ∙ (λ i. record { made = append-nil g.made i; lines = append-nil g.lines i; tables = g.tables }) in
    record {
      wrote = subst (λ (w : Written (List Expression)). Wrote contents first now w.lines w.tables) (sym e) g.wrote;
      shown = subst (λ (w : Written (List Expression)). AreSpelled w.made texts) (sym e) g.shown;
    }

-- ---- a node that stops

-- the lines so far, those of the next node, and those of the others
lines_of_all : {S : Type 0} {contents : S → Option (List ℕ)} {enums : Enums} {first now : Writer S} {left left' all : List Meaning} {texts : List (RcStr Global)} {s : Tables} (m : Meaning) → left ≡ m ∷ left' → (g : Going contents enums first now left all texts s)
    → g.lines ++ ((encode_meaning enums m g.tables).lines ++ ((encode_meanings enums left' (encode_meaning enums m g.tables).tables).lines ++ [])) ≡ (encode_meanings enums all s).lines
lines_of_all {enums = enums} m this g = sym (ap (λ (w : Written (List Expression)). w.lines) (g.whole ∙ ap (λ l. behind_these g.made g.lines (encode_meanings enums l g.tables)) this))

-- the next node stopped
pub stops_at : {S : Type 0} {contents : S → Option (List ℕ)} {enums those : Enums} {first now next : Writer S} {left left' all : List Meaning} {texts : List (RcStr Global)} {s : Tables} (m : Meaning) (e : WriteError) → left ≡ m ∷ left' → (g : Going contents enums first now left all texts s)
    → those ≡ enums → (AreTypedMeanings all → IsTrue (is_typed m)) → Stopped contents (AreObeyed those (IsTrue (is_typed m)) g.tables) now next (encode_meaning those m g.tables).lines e
    → Stopped contents (AreObeyed enums (AreTypedMeanings all) s) first next (encode_meanings enums all s).lines e
stops_at {contents = contents} {enums} {first = first} {now} {next} {left' = left'} {all} {s = s} m e this g same typed st =
    let w : Written Expression = encode_meaning enums m g.tables in
    stopped_behind first now next g.lines w.lines ((encode_meanings enums left' w.tables).lines ++ []) (encode_meanings enums all s).lines g.tables e (lines_of_all m this g) g.wrote.contents_are g.steps typed
    (subst (λ (k : Enums). Stopped contents (AreObeyed k (IsTrue (is_typed m)) g.tables) now next (encode_meaning k m g.tables).lines e) same st)

-- what follows the next node stopped, before more lines
pub stops_behind : {S : Type 0} {contents : S → Option (List ℕ)} {enums : Enums} {first now next : Writer S} {left left' all : List Meaning} {texts : List (RcStr Global)} {s : Tables} (m : Meaning) (e : WriteError) → left ≡ m ∷ left' → (g : Going contents enums first now left all texts s)
    → Wrote contents now next (encode_meaning enums m g.tables).lines (encode_meaning enums m g.tables).tables → (AreTypedMeanings all → IsObeyable enums g.tables (encode_meaning enums m g.tables))
    → Stopped contents (AreObeyed enums (AreTypedMeanings all) s) first next (encode_meanings enums all s).lines e
stops_behind {enums = enums} {first} {now} {next} {left' = left'} {all} {s = s} m e this g p step =
    let w : Written Expression = encode_meaning enums m g.tables in
    let wrote = wrote_then g.wrote p in
    after_lines first next (g.lines ++ w.lines) ((encode_meanings enums left' w.tables).lines ++ []) (encode_meanings enums all s).lines w.tables w.tables e
    (append_assoc g.lines w.lines ((encode_meanings enums left' w.tables).lines ++ []) ∙ lines_of_all m this g) wrote.contents_are wrote.names (λ typed. steps_then enums (g.steps typed) (step typed))

-- one node without fault more
pub one_passed : (enums : Enums) (left left' all : List Meaning) (m : Meaning) → left ≡ m ∷ left' → meaning_fault enums m ≡ None → meanings_fault enums all ≡ meanings_fault enums left → meanings_fault enums all ≡ meanings_fault enums left'
one_passed enums left left' all m this none h = h ∙ ap (meanings_fault enums) this ∙ ap (λ o. option_or o (meanings_fault enums left')) none
