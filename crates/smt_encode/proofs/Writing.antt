-- Texts that are kept are stated without a line.
use Rattle.std.proofs.Common.{◌≡◌, ℕ, Bool, true, false, List, [], ◌∷◌, map, Option, Some, None, refl, sym, ap, subst, ◌∙◌}
use Rattle.std.specs.Prelude.{option_map}
use Rattle.std.specs.Rc.{rc_str_bytes}
use Rattle.std.specs.declared.alloc.Global.{Global}
use Rattle.std.specs.declared.rc.RcStr.{RcStr}
use Rattle.law_texts.specs.Reading.{Expression}
use Rattle.law_scripts.specs.Script.{name}
use Rattle.law_terms.specs.Meanings.{all_found, found, meanings}
use Rattle.law_terms.specs.Nodes.{Meaning}
use Rattle.law_terms.proofs.Places.{map_back, then_back, some_same}
use Rattle.smt_nodes.specs.Interned.{meaning_in, nodes_of}
use Rattle.smt_nodes.specs.View.{place_of, places_of}
use Rattle.smt_nodes.specs.declared.id.NodeId.{NodeId}
use Rattle.law_lines.specs.Lines.{Enums, made_of, ◌>>=◌}
use Rattle.law_lines.specs.NameTables.{Tables}
use Rattle.smt_spelling.specs.Names.{enums_under, KeepTables}
use Rattle.smt_spelling.specs.NodeLines.{encode_meaning, encode_meanings, has_entry, name_in}
use Rattle.smt_spelling.specs.NodeTexts.{text_at, AreTexts, HasName, IsText}
use Rattle.smt_encode.specs.Steps.{HasTables, Wrote}
use Rattle.smt_spelling.specs.Spelled.{AreSpelled, IsSpelled}
use Rattle.smt_encode.specs.declared.writer.Writer.{Writer}
use Rattle.smt_spelling.specs.declared.names.Names.{Names}
use Rattle.smt_encode.proofs.Lines.{nothing_written}
use Rattle.smt_spelling.proofs.Named.{named_at, one_id}
use Rattle.smt_spelling.proofs.Stated.{named_stated}

-- a text that is kept
pub kept_text : (n : Names) (s : Tables) → KeepTables n s → (id : NodeId) (m : Meaning) (x : List ℕ) → meaning_in n.nodes id ≡ Some m → text_at n.texts id ≡ Some x → IsText (enums_under n) s m x
kept_text n s are id m x meant there = go (has_entry m) refl
  where
    go : (b : Bool) → has_entry m ≡ b → IsText (enums_under n) s m x
    go false e = are.inline id m x meant e there
    go true e = (name x, named_stated (enums_under n) m s x e (sym (named_at n.nodes n.texts m (name_in s m) id (are.names m) meant e) ∙ there), refl)

-- the texts that are kept are those of the tables
pub are_texts : (n : Names) (s : Tables) (enums : Enums) → enums_under n ≡ enums → KeepTables n s → AreTexts enums s n.nodes n.texts
are_texts n s enums same are = record {
  named = λ id m meant entry. named_at n.nodes n.texts m (name_in s m) id (are.names m) meant entry;
  stated = λ id m x meant there. subst (λ (e : Enums). IsText e s m x) same (kept_text n s are id m x meant there);
}

-- what a node without a text stands for has no name
pub unnamed : (n : Names) (s : Tables) → KeepTables n s → (id : NodeId) (m : Meaning) → meaning_in n.nodes id ≡ Some m → text_at n.texts id ≡ None → name_in s m ≡ None
unnamed n s are id m meant none = go (name_in s m) (are.names m)
  where
    go : (o : Option (List ℕ)) → HasName n.nodes n.texts m o → o ≡ None
    go None h = refl
    go (Some x) (other, h, entry, there) =
        let same : id ≡ other = one_id n.nodes id other m meant h in
        let both : text_at n.texts other ≡ None = ap (text_at n.texts) (sym same) ∙ none in
        absurd cc

-- a node that has a text is written by it, and nothing is added
pub kept_written : {S : Type 0} {contents : S → Option (List ℕ)} (e : Writer S) (s : Tables) (id : NodeId) (m : Meaning) (text : RcStr Global) → HasTables e s → meaning_in e.names.nodes id ≡ Some m → text_at e.names.texts id ≡ Some (rc_str_bytes text)
    → Wrote contents e e (encode_meaning (enums_under e.names) m s).lines (encode_meaning (enums_under e.names) m s).tables × IsSpelled (encode_meaning (enums_under e.names) m s).made text
kept_written e s id m text has meant there =
    let (x, stated, spells) = kept_text e.names s has id m (rc_str_bytes text) meant there in
    rw stated (nothing_written e s has, spells)

-- the same of several nodes
pub record SpellMeanings (enums : Enums) (s : Tables) (ms : List Meaning) (texts : List (RcStr Global)) : Type 0 where
  pub made : List Expression
  pub shown : AreSpelled made texts
  pub stated : encode_meanings enums ms s ≡ made_of made s

pub kept_texts : (n : Names) (s : Tables) → KeepTables n s → (ids : List NodeId) (ms : List Meaning) (texts : List (RcStr Global)) → all_found (meanings (nodes_of n.nodes)) (places_of ids) ≡ Some ms
    → map (text_at n.texts) ids ≡ map (λ text. Some (rc_str_bytes text)) texts → SpellMeanings (enums_under n) s ms texts
kept_texts n s are [] ms [] h k = record { made = []; shown = refl; stated = ap (λ l. encode_meanings (enums_under n) l s) (sym (some_same [] ms h)) }
kept_texts n s are [] ms (x ∷ texts) h k = absurd (cc)
kept_texts n s are (id ∷ ids) ms [] h k = absurd (cc)
kept_texts n s are (id ∷ ids) ms (x ∷ texts) h k =
    let found_here = found (meanings (nodes_of n.nodes)) in
    let (m, e, g) = then_back (λ m. option_map (λ more. m ∷ more) (all_found (meanings (nodes_of n.nodes)) (places_of ids))) (found_here (place_of id)) ms h in
    let (more, f, same) = map_back (λ more. m ∷ more) (all_found (meanings (nodes_of n.nodes)) (places_of ids)) ms g in
    let (y, stated, spells) = kept_text n s are id m (rc_str_bytes x) e (cc) in
    let rest = kept_texts n s are ids more texts f (cc) in
    record {
      made = y ∷ rest.made;
      shown = λ i. spells i ∷ rest.shown i;
      stated = ap (λ l. encode_meanings (enums_under n) l s) (sym same)
          ∙ ap (λ w. w >>= λ e u. encode_meanings (enums_under n) more u >>= λ es v. made_of (e ∷ es) v) stated
          ∙ ap (λ w. w >>= λ es v. made_of (y ∷ es) v) rest.stated;
    }
