-- The plain table that a lent state stands for.
use Rattle.std.specs.Prelude.{cond, List, ℕ, ◌-◌, eqb, take, drop}
use Rattle.meaning.specs.Limits.{parties, party_slots, party_walks}
use Rattle.meaning.specs.Counting.{rows}
use Rattle.meaning.specs.Lent.{Nodes, VersionRecord, WalkRecord, Lent, version_at, walk_at}
use Rattle.meaning.specs.Trees.{contents}
use Rattle.meaning.specs.Table.{Slot, empty, live, Walk, closed, taking, Party, Table}

unfoldable pub slot_of : Nodes → VersionRecord → Slot
slot_of s v = cond (eqb v.live 1) (live (record { bits = v.bits; items = contents s v })) empty

-- what is left between the values taken from the front and those taken from the back
unfoldable pub left_between : (front back : ℕ) → (length : ℕ) → List ℕ → List ℕ
left_between front back length xs = take (length - front - back) (drop front xs)

unfoldable pub walk_of : Nodes → WalkRecord → Walk
walk_of s w =
    let v = w.version in
    cond (eqb v.live 1) (taking (left_between w.front w.back v.length (contents s v))) closed

unfoldable pub party_of : Lent → (party : ℕ) → Party
unfolding rows
party_of s p =
    record {
      slots = rows party_slots (λ n. slot_of s.nodes (version_at s p n));
      walks = rows party_walks (λ n. walk_of s.nodes (walk_at s p n));
    }

unfoldable pub table_of : Lent → Table
unfolding rows party_of
table_of s = rows parties (party_of s)
