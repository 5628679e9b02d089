-- The lent state of what a host lends: the slices, and the table by value.
use Rattle.std.specs.Prelude.{List, ℕ, ℤ}
use Rattle.meaning.specs.Lent.{Nodes, WalkSlices, Lent}
use Rattle.records.specs.declared.Version.{Version}
use Rattle.records.specs.Records.{records_of}
use Rattle.audit_model.specs.Made.{nodes_of, walks_of, lent_of}
use Rattle.audit_reads.specs.declared.Nodes.{Nodes as LentNodes}
use Rattle.audit_reads.specs.declared.Walks.{Walks}
use Rattle.audit_reads.specs.declared.Lent.{Lent as AllLent}

abbrev pub lent_from : (kinds used counts cells order : List ℕ) → List Version → (walk_numbers walk_nodes : List ℕ) → List ℤ → Lent
lent_from k u c e o v a b i = lent_of (nodes_of k u e) c o (records_of v) (walks_of a b i)

abbrev pub nodes_in : LentNodes → Nodes
nodes_in s = nodes_of s.kinds.now s.used.now s.cells.now

abbrev pub walks_in : Walks → WalkSlices
walks_in w = walks_of w.numbers.now w.nodes.now w.indices.now

abbrev pub lent_in : AllLent → Lent
lent_in s = lent_of (nodes_in s.nodes) s.counts.now s.order.now (records_of s.versions.now) (walks_in s.walks)
