use Rattle.std.proofs.Common.{◌≡◌, ◌+◌, ◌*◌, ◌≤◌, ℕ, Bool, IsTrue, List, Ok, Some, drop, length, map, take}
use Rattle.std.specs.List.{AllByRecursion}
use Rattle.std.specs.Rc.{rc_str_bytes}
use Rattle.law_terms.specs.Meanings.{all_found, meanings}
use Rattle.law_terms.specs.Nodes.{Meaning}
use Rattle.smt_nodes.specs.Interned.{nodes_of}
use Rattle.smt_nodes.specs.View.{place_of, places_of}
use Rattle.law_lines.specs.NameTables.{Tables}
use Rattle.smt_script.specs.declared.sink.SinkError.TheVariants.{Fault}
use Rattle.smt_spelling.specs.Names.{enums_under, nodes_under, texts_under}
use Rattle.smt_spelling.specs.NodeLines.{meanings_fault}
use Rattle.smt_spelling.specs.NodeTexts.{text_at}
use Rattle.smt_spelling.specs.LookUps.{IsClosed}
use Rattle.smt_encode.specs.Steps.{look_ups_in, HasTables, Walks}
use Rattle.smt_encode.specs.declared.error.WriteError.TheVariants.{Sink}
use Rattle.smt_encode.proofs.Going.{Going}
use Rattle.smt_encode.proofs.writer.Writer.+walk.Given as goal

abbrev pub decreases-encode_node : goal.decreases-encode_node
decreases-encode_node g l = 3 * place_of l.id + 2

abbrev pub decreases-encode_new : goal.decreases-encode_new
decreases-encode_new g l = 3 * place_of l.id + 1

abbrev pub decreases-encode_all : goal.decreases-encode_all
decreases-encode_all g l = 3 * l.before

-- What was written so far and what is stated of the nodes that are left are what is stated of all, and so it is with their first fault. The texts so far are kept. Each look-up went along an edge that is not left, or to one of the numbers.
abbrev pub invariant-encode_all-loop-id : goal.invariant-encode_all-loop-id
invariant-encode_all-loop-id g l = record {
  walks : Walks {T = Unit {0}} g.S.Sink.faults g.S.Sink.place (Sink Fault) l.before l.fn.self l.self (Ok tt);
  going : (ms : List Meaning) → all_found (meanings (nodes_of (nodes_under l.fn.self.names))) (places_of l.ids) ≡ Some ms → (s : Tables) → HasTables l.fn.self s → Going g.S.Sink.contents (enums_under l.fn.self.names) l.fn.self l.self (drop l.id-index ms) ms l.texts.items s;
  fault : (ms : List Meaning) → all_found (meanings (nodes_of (nodes_under l.fn.self.names))) (places_of l.ids) ≡ Some ms → meanings_fault (enums_under l.fn.self.names) ms ≡ meanings_fault (enums_under l.fn.self.names) (drop l.id-index ms);
  kept : map (text_at (texts_under l.self.names)) (take l.id-index l.ids) ≡ map (λ text. Some (rc_str_bytes text)) l.texts.items;
  count : length l.texts.items ≡ l.id-index;
  steps : (has : ℕ → Bool) → IsClosed (nodes_of (nodes_under l.fn.self.names)) has → AllByRecursion (λ place. IsTrue (has place)) (places_of l.ids) → l.steps + look_ups_in has l.self ≤ l.fn.steps + l.id-index + look_ups_in has l.fn.self;
}
