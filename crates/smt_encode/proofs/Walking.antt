-- What writing one node after the other leaves.
use Rattle.std.proofs.Common.{◌≡◌, ◌⊎◌, inl, inr, ◌<◌, ◌≤◌, ◌+◌, ℕ, zero, suc, List, [], ◌∷◌, ◌++◌, add-one, length, length-append, get_or, map, take, refl, sym, ap, subst, ◌∙◌, arith, Option, Some, Result}
use Rattle.std.specs.Prelude.{is_some, option_and_then, option_map}
use Rattle.std.proofs.Math.Seq.{take-suc}
use Rattle.std.proofs.lemmas.List.{length-map, map-append}
use Rattle.std.specs.List.{AllByRecursion}
use Rattle.std.specs.Rc.{rc_str_bytes}
use Rattle.std.specs.declared.alloc.Global.{Global}
use Rattle.std.specs.declared.rc.RcStr.{RcStr}
use Rattle.law_terms.specs.Meanings.{all_found, found, meanings}
use Rattle.law_terms.specs.Nodes.{Meaning, TermMeaning}
use Rattle.law_terms.specs.Plain.{PlainTerm}
use Rattle.law_terms.specs.Parts.{parts_in}
use Rattle.law_terms.proofs.Places.{map_back, some_same, then_back}
use Rattle.smt_nodes.specs.Interned.{meaning_in, nodes_of}
use Rattle.smt_nodes.specs.declared.interner.Interner.{Interner}
use Rattle.smt_nodes.specs.declared.node.Node.{Node}
use Rattle.law_lines.specs.Lines.{AsApplication, AsEqualsIntMin, AsFalse}
use Rattle.smt_spelling.specs.NodeEntries.{NodeRendering, AsCall, Rendered, rendering_in, second_last, written_parts}
use Rattle.smt_spelling.proofs.Rendered.{found_length}
use Rattle.smt_nodes.specs.View.{ids_of, place_of, places_of, plain_node}
use Rattle.smt_nodes.specs.declared.id.NodeId.{NodeId}
use Rattle.smt_spelling.specs.Names.{texts_under, StandsOn}
use Rattle.smt_spelling.specs.NodeTexts.{kept_now, text_at, IsNodeOf}
use Rattle.smt_spelling.specs.Whole.{IsWritten}
use Rattle.smt_spelling.specs.declared.node_names.NodeNames.{NodeNames}
use Rattle.smt_encode.specs.Steps.{FaultCounted, Walks}
use Rattle.smt_encode.specs.declared.writer.Writer.{Writer}
use Rattle.smt_spelling.specs.declared.names.Names.{Names}

-- what holds of the places of a list holds of one of them
pub holds_at : (P : ℕ → Type 0) (ids : List NodeId) (i : ℕ) (d : NodeId) → AllByRecursion P (places_of ids) → i < length ids → P (place_of (get_or ids i d))
holds_at P [] i d h b = absurd (omega (arith, b))
holds_at P (id ∷ ids) zero d h b = h.0
holds_at P (id ∷ ids) (suc i) d h b = holds_at P ids i d h.1 (omega (arith, b))

-- a number of a list stands before the place
pub earlier_at : (before : ℕ) (ids : List NodeId) (i : ℕ) (d : NodeId) → AllByRecursion (λ place. place < before) (places_of ids) → i < length ids → place_of (get_or ids i d) < before
earlier_at before = holds_at (λ place. place < before)

pub stands_then : {a b c : Names} → StandsOn a b → StandsOn b c → StandsOn a c
stands_then p q = record { enums = q.enums ∙ p.enums; nodes = q.nodes ∙ p.nodes; room = record { places = q.room.places ∙ p.room.places; order = omega (arith, p.room.order, q.room.order) }; levels = q.levels ∙ p.levels }

-- one walk behind the other
pub walks_then : {S T U E : Type 0} {faults : S → ℕ} {place : S → List ℕ} {fault : E} {first mid new : Writer S} {one : Result T E} {two : Result U E} {V : Type 0} (before behind : ℕ) (result : Result V E) → behind ≤ before
    → Walks faults place fault before first mid one → Walks faults place fault behind mid new two → FaultCounted faults place fault first new result → Walks faults place fault before first new result
walks_then before behind result less p q counted = record {
  counted = counted;
  stands = stands_then p.stands q.stands;
  kept = λ id text h. q.kept id text (p.kept id text h);
  later = λ id h. q.later id (omega (arith, less, h)) ∙ p.later id h;
}

-- the text of one more number is kept
pub kept_more : {S : Type 0} (mid new : Writer S) (ids : List NodeId) (i : ℕ) (d : NodeId) (texts more : List (RcStr Global)) (text : RcStr Global) → i < length ids → ((id : NodeId) (x : List ℕ) → text_at (texts_under mid.names) id ≡ Some x → text_at (texts_under new.names) id ≡ Some x)
    → map (text_at (texts_under mid.names)) (take i ids) ≡ map (λ text. Some (rc_str_bytes text)) texts → text_at (texts_under new.names) (get_or ids i d) ≡ Some (rc_str_bytes text) → more ≡ texts ++ text ∷ []
    → map (text_at (texts_under new.names)) (take (i + 1) ids) ≡ map (λ text. Some (rc_str_bytes text)) more
kept_more mid new ids i d texts more text b keeps h here is =
    ap (λ n. map (text_at (texts_under new.names)) (take n ids)) (add-one i)
    ∙ ap (map (text_at (texts_under new.names))) (take-suc ids i d b)
    ∙ map-append (text_at (texts_under new.names)) (take i ids) (get_or ids i d ∷ [])
    ∙ (λ k. older (take i ids) texts h k ++ here k ∷ [])
    ∙ sym (map-append (λ text. Some (rc_str_bytes text)) texts (text ∷ []))
    ∙ ap (map (λ text. Some (rc_str_bytes text))) (sym is)
  where
    older : (ids : List NodeId) (texts : List (RcStr Global)) → map (text_at (texts_under mid.names)) ids ≡ map (λ text. Some (rc_str_bytes text)) texts → map (text_at (texts_under new.names)) ids ≡ map (λ text. Some (rc_str_bytes text)) texts
    older [] texts h = h
    older (id ∷ ids) [] h = absurd (cc)
    older (id ∷ ids) (text ∷ texts) h =
        let e : text_at (texts_under new.names) id ≡ Some (rc_str_bytes text) = keeps id (rc_str_bytes text) (cc) in
        let f : map (text_at (texts_under new.names)) ids ≡ map (λ text. Some (rc_str_bytes text)) texts = older ids texts (cc) in
        λ k. e k ∷ f k

-- ---- the parts that are written before a node

-- what the first of several numbers stands for, and what the others do
record First (ms : List (Option Meaning)) (place : ℕ) (places : List ℕ) (ps : List Meaning) : Type 0 where
  first : Meaning
  others : List Meaning
  here : found ms place ≡ Some first
  there : all_found ms places ≡ Some others
  both : ps ≡ first ∷ others

first_of : (ms : List (Option Meaning)) (place : ℕ) (places : List ℕ) (ps : List Meaning) → all_found ms (place ∷ places) ≡ Some ps → First ms place places ps
first_of ms place places ps h =
    let (m, e, g) = then_back (λ m. option_map (λ more. m ∷ more) (all_found ms places)) (found ms place) ps h in
    let (more, f, same) = map_back (λ more. m ∷ more) (all_found ms places) ps g in
    record { first = m; others = more; here = e; there = f; both = sym same }

found_first : (ms : List (Option Meaning)) (place : ℕ) (places : List ℕ) (m : Meaning) (more : List Meaning) → found ms place ≡ Some m → all_found ms places ≡ Some more → all_found ms (place ∷ places) ≡ Some (m ∷ more)
found_first ms place places m more e f = ap (option_and_then (λ m. option_map (λ more. m ∷ more) (all_found ms places))) e ∙ ap (option_map (λ more. m ∷ more)) f

-- a number more behind the others
found_behind : (ms : List (Option Meaning)) (ids : List NodeId) (id : NodeId) (ps : List Meaning) (m : Meaning) → all_found ms (places_of ids) ≡ Some ps → found ms (place_of id) ≡ Some m → all_found ms (places_of (ids ++ id ∷ [])) ≡ Some (ps ++ m ∷ [])
found_behind ms [] id ps m h e = found_first ms (place_of id) [] m [] e refl ∙ ap (λ l. Some (l ++ m ∷ [])) (some_same [] ps h)
found_behind ms (i ∷ ids) id ps m h e =
    let f = first_of ms (place_of i) (places_of ids) ps h in
    found_first ms (place_of i) (places_of (ids ++ id ∷ [])) f.first (f.others ++ m ∷ []) f.here (found_behind ms ids id f.others m f.there e) ∙ ap (λ l. Some (l ++ m ∷ [])) (sym f.both)

written_found : (ms : List (Option Meaning)) (how : NodeRendering) (ids : List NodeId) (ps : List Meaning) → all_found ms (places_of ids) ≡ Some ps → all_found ms (places_of (written_parts how ids)) ≡ Some (written_parts how ps)
written_found ms (Rendered AsApplication) ids ps h = h
written_found ms (Rendered (AsEqualsIntMin width)) ids ps h = h
written_found ms (Rendered AsFalse) [] ps h = ap (λ l. Some (take 1 l)) (some_same [] ps h)
written_found ms (Rendered AsFalse) (id ∷ ids) ps h =
    let f = first_of ms (place_of id) (places_of ids) ps h in
    ap (option_and_then (λ m. Some (m ∷ []))) f.here ∙ ap (λ l. Some (take 1 l)) (sym f.both)
written_found ms AsCall [] ps h = ap (λ l. Some (second_last l)) (some_same [] ps h)
written_found ms AsCall (id ∷ []) ps h =
    let f = first_of ms (place_of id) [] ps h in
    let both : ps ≡ f.first ∷ [] = f.both ∙ ap (λ l. f.first ∷ l) (sym (some_same [] f.others f.there)) in
    h ∙ ap Some both ∙ ap (λ l. Some (second_last l)) (sym both)
written_found ms AsCall (x ∷ y ∷ ids) ps h =
    let f = first_of ms (place_of x) (places_of (y ∷ ids)) ps h in
    let g = first_of ms (place_of y) (places_of ids) f.others f.there in
    found_first ms (place_of x) (places_of (ids ++ y ∷ [])) f.first (g.others ++ g.first ∷ []) f.here (found_behind ms ids y g.others g.first g.there g.here)
    ∙ ap (λ l. Some (second_last l)) (sym (f.both ∙ ap (λ l. f.first ∷ l) g.both))

-- what holds of all holds of those that are written
all_behind : {A : Type 0} (P : A → Type 0) (xs : List A) (x : A) → AllByRecursion P xs → P x → AllByRecursion P (xs ++ x ∷ [])
all_behind P [] x h p = (p, tt)
all_behind P (y ∷ xs) x h p = (h.0, all_behind P xs x h.1 p)

pub written_all : {A : Type 0} (P : A → Type 0) (how : NodeRendering) (xs : List A) → AllByRecursion P xs → AllByRecursion P (written_parts how xs)
written_all P (Rendered AsApplication) xs h = h
written_all P (Rendered (AsEqualsIntMin width)) xs h = h
written_all P (Rendered AsFalse) [] h = h
written_all P (Rendered AsFalse) (x ∷ xs) h = (h.0, tt)
written_all P AsCall [] h = h
written_all P AsCall (x ∷ []) h = h
written_all P AsCall (x ∷ y ∷ xs) h = (h.0, all_behind P xs y h.1.1 h.1.0)

-- and what holds of those in another order holds of them
behind_all : {A : Type 0} (P : A → Type 0) (xs : List A) (x : A) → AllByRecursion P (xs ++ x ∷ []) → P x × AllByRecursion P xs
behind_all P [] x h = (h.0, tt)
behind_all P (y ∷ xs) x h = let (p, others) = behind_all P xs x h.1 in (p, (h.0, others))

pub ordered_all : {A : Type 0} (P : A → Type 0) (xs : List A) → AllByRecursion P (second_last xs) → AllByRecursion P xs
ordered_all P [] h = h
ordered_all P (x ∷ []) h = h
ordered_all P (x ∷ y ∷ xs) h = let (p, others) = behind_all P xs y h.1 in (h.0, (p, others))

-- the places of numbers
pub of_places : (P : ℕ → Type 0) (ids : List NodeId) → AllByRecursion P (places_of ids) → AllByRecursion (λ id. P (place_of id)) ids
of_places P [] h = tt
of_places P (id ∷ ids) h = (h.0, of_places P ids h.1)

pub to_places : (P : ℕ → Type 0) (ids : List NodeId) → AllByRecursion (λ id. P (place_of id)) ids → AllByRecursion P (places_of ids)
to_places P [] h = tt
to_places P (id ∷ ids) h = (h.0, to_places P ids h.1)

written_fewer : (how : NodeRendering) (ids : List NodeId) → length (written_parts how ids) ≤ length ids
written_fewer (Rendered AsApplication) ids = omega (arith)
written_fewer (Rendered (AsEqualsIntMin width)) ids = omega (arith)
written_fewer (Rendered AsFalse) [] = omega (arith)
written_fewer (Rendered AsFalse) (id ∷ ids) = omega (arith)
written_fewer AsCall [] = omega (arith)
written_fewer AsCall (x ∷ []) = omega (arith)
written_fewer AsCall (x ∷ y ∷ ids) = let n = length-append ids (y ∷ []) in omega (arith, n)

module _ (i : Interner) (id : NodeId) (node : Node) (is : IsNodeOf i id node) (m : Meaning) (meant : meaning_in i id ≡ Some m) (how : NodeRendering) (rendered : how ≡ rendering_in m) (ids written : List NodeId) (all : ids ≡ ids_of node.parts) (taken : written ≡ written_parts how ids) where
  pub parts_found : all_found (meanings (nodes_of i)) (places_of written) ≡ Some (written_parts (rendering_in m) (parts_in m))
  parts_found =
      ap (λ l. all_found (meanings (nodes_of i)) (places_of l)) (taken ∙ ap (written_parts how) all)
      ∙ written_found (meanings (nodes_of i)) how (ids_of node.parts) (parts_in m) (is.parts m meant)
      ∙ ap (λ r. Some (written_parts r (parts_in m))) rendered

  pub parts_hold : (P : ℕ → Type 0) → AllByRecursion P (places_of (ids_of node.parts)) → AllByRecursion P (places_of written)
  parts_hold P h = subst (λ (l : List NodeId). AllByRecursion P (places_of l)) (sym (taken ∙ ap (written_parts how) all)) (to_places P (written_parts how (ids_of node.parts)) (written_all (λ id. P (place_of id)) how (ids_of node.parts) (of_places P (ids_of node.parts) h)))

  pub parts_earlier : (before : ℕ) → before ≡ place_of id → AllByRecursion (λ place. place < before) (places_of written)
  parts_earlier before same = parts_hold (λ place. place < before) (subst (λ (b : ℕ). AllByRecursion (λ place. place < b) (places_of (ids_of node.parts))) (sym same) is.earlier)

  pub parts_fewer : length written ≤ length (plain_node node).parts
  parts_fewer =
      let e = ap length (taken ∙ ap (written_parts how) all) in
      let f = written_fewer how (ids_of node.parts) in
      let n = length-map (ids_of node.parts) place_of in
      omega (arith, e, f, n)

  pub parts_count : length written ≡ length (written_parts (rendering_in m) (parts_in m))
  parts_count = sym (length-map written place_of) ∙ sym (found_length (meanings (nodes_of i)) (places_of written) (written_parts (rendering_in m) (parts_in m)) parts_found)

-- where all parts are written, in whatever order, what holds of those that are written holds of all
pub parts_back : {A : Type 0} (P : A → Type 0) (how : NodeRendering) (xs : List A) → (written_parts how xs ≡ xs) ⊎ (written_parts how xs ≡ second_last xs) → AllByRecursion P (written_parts how xs) → AllByRecursion P xs
parts_back {A} P how xs (inl same) h = subst (λ (l : List A). AllByRecursion P l) same h
parts_back {A} P how xs (inr same) h = ordered_all P xs (subst (λ (l : List A). AllByRecursion P l) same h)

-- what holds of what terms mean holds of the terms
pub of_terms : (P : Meaning → Type 0) (ts : List PlainTerm) → AllByRecursion P (map TermMeaning ts) → AllByRecursion (λ t. P (TermMeaning t)) ts
of_terms P [] h = tt
of_terms P (t ∷ ts) h = (h.0, of_terms P ts h.1)

-- what numbers stand for that have these texts is written
pub found_written : (i : Interner) (names : NodeNames) (ids : List NodeId) (ms : List Meaning) (texts : List (RcStr Global)) → all_found (meanings (nodes_of i)) (places_of ids) ≡ Some ms
    → map (text_at names) ids ≡ map (λ text. Some (rc_str_bytes text)) texts → AllByRecursion (IsWritten i (kept_now names).texts) ms
found_written i names [] ms texts h kept = subst (AllByRecursion (IsWritten i (kept_now names).texts)) (some_same [] ms h) tt
found_written i names (id ∷ ids) ms [] h kept = absurd (cc)
found_written i names (id ∷ ids) ms (text ∷ texts) h kept =
    let f = first_of (meanings (nodes_of i)) (place_of id) (places_of ids) ms h in
    let e : text_at names id ≡ Some (rc_str_bytes text) = cc in
    let rest = found_written i names ids f.others texts f.there (cc) in
    subst (AllByRecursion (IsWritten i (kept_now names).texts)) (sym f.both) ((id, f.here, ap is_some e), rest)
