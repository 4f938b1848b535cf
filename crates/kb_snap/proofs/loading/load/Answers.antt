use Rattle.std.proofs.Common.{◌<◌, ◌^◌, ◌++◌, ap, sym, subst, ◌∙◌, arith, is_some}
use Rattle.std.specs.FinMap as map
use Rattle.kb_keys.specs.Rings.{key_at}
use Rattle.kb_files.specs.Opens.{Opens}
use Rattle.kb_name.specs.Nodes.{root}
use Rattle.kb_ops.specs.Trees.{Tree, look}
use Rattle.kb_ops.specs.declared.rows.Row.{Row}
use Rattle.kb_snap.specs.Holds.{HoldsTree, HoldsEach}
use Rattle.kb_snap.specs.Pointers.{AllHold}
use Rattle.kb_snap.specs.Reads.{stacked, row_of}
use Rattle.kb_snap.proofs.Sealing.{emptied}
use Rattle.kb_snap.proofs.Turns.{IsTurn, turn_first, first_refused, twice, refused, turn_more, stops_root, stops_twice, stops_refused, turn_end, turn_each, turn_all, counted, none_of}
use Rattle.kb_snap.proofs.loading.load.Goals as goal

pub returns-in-Err-clause-reads : goal.returns-in-Err-clause-reads
returns-in-Err-clause-reads g c =
    first_refused g.S.Sealer.sealed g.H.BlockHash.hashed g.met.S.Sealer.one_plain (map.get c.args.store.now) (key_at c.args.keys.now) c.args.root c.args.mtime c.in-Err.fault c.in-Err.ensures.reads

pub entries-init : goal.entries-init
entries-init g c =
    turn_first g.S.Sealer.sealed g.H.BlockHash.hashed g.met.S.Sealer.one_plain (map.get c.args.store.now) (key_at c.args.keys.now) c.args.root c.args.mtime c.in-Ok.entries.items c.in-Ok.ensures.reads c.keep.new.rows c.keep.new.pointers c.wait.new.waiting.items
    (c.in-Ok-keep.ensures.rows ∙ ap (λ t. map.insert t c.root_row.result.id c.root_row.result) c.new-rows.ensures ∙ ap (λ (r : Row). map.insert map.empty r.id r) c.root_row.ensures)
    (c.in-Ok-keep.ensures.pointers ∙ ap (λ t. map.insert t c.root_row.result.id c.args.root) c.new-pointers.ensures ∙ ap (λ (r : Row). map.insert map.empty r.id c.args.root) c.root_row.ensures)
    (c.in-Ok-wait.ensures ∙ ap (λ ws. ws ++ stacked root c.args.root.id c.in-Ok.entries.items) c.new-waiting.ensures.items)

pub returns-then-has-clause-reads : goal.returns-then-has-clause-reads
returns-then-has-clause-reads g c =
    twice g.S.Sealer.sealed g.H.BlockHash.hashed g.met.S.Sealer.one_plain (map.get c.args.store.now) (key_at c.args.keys.now) c.args.root c.args.mtime c.entries.rows c.entries.pointers c.entries.waiting.items c.pop.new.self.items c.in-Some.next c.in-Some.ensures.items c.entries.invariant
    (sym c.has.ensures ∙ c.if-has.true)

pub returns-in-Err-read_bytes-clause-reads : goal.returns-in-Err-read_bytes-clause-reads
returns-in-Err-read_bytes-clause-reads g c =
    refused g.S.Sealer.sealed g.H.BlockHash.hashed g.met.S.Sealer.one_plain (map.get c.args.store.now) (key_at c.args.keys.now) c.args.root c.args.mtime c.entries.rows c.entries.pointers c.entries.waiting.items c.pop.new.self.items c.in-Some.next c.in-Some.ensures.items c.entries.invariant
    c.in-Err-read_bytes.fault c.in-Err-read_bytes.ensures

pub entries-smaller : goal.entries-smaller
entries-smaller g c =
    let fresh = none_of (map.get c.entries.pointers c.in-Some.next.entry.id) (sym c.has.ensures ∙ c.if-has.false) in
    let set = c.in-Ok-keep-2.ensures.pointers ∙ ap (λ (r : Row). map.insert c.entries.pointers r.id c.in-Some.next.entry.ptr) c.row_of.ensures in
    let small : map.len c.entries.pointers < 2 ^ 64 = omega (arith, c.len.ensures.len, c.len.ensures.small) in
    counted c.entries.pointers c.keep-in-Some.new.pointers c.in-Some.next.entry.id c.in-Some.next.entry.ptr fresh set small

pub entries-preserved : goal.entries-preserved
entries-preserved g c =
    let fresh = none_of (map.get c.entries.pointers c.in-Some.next.entry.id) (sym c.has.ensures ∙ c.if-has.false) in
    let rows = c.in-Ok-keep-2.ensures.rows ∙ ap (λ (r : Row). map.insert c.entries.rows r.id r) c.row_of.ensures in
    let set = c.in-Ok-keep-2.ensures.pointers ∙ ap (λ (r : Row). map.insert c.entries.pointers r.id c.in-Some.next.entry.ptr) c.row_of.ensures in
    let turn = turn_more g.S.Sealer.sealed g.H.BlockHash.hashed g.met.S.Sealer.one_plain (map.get c.args.store.now) (key_at c.args.keys.now) c.args.root c.args.mtime c.entries.rows c.entries.pointers c.entries.waiting.items c.pop.new.self.items c.in-Some.next c.in-Some.ensures.items c.entries.invariant
    fresh c.in-Ok-read_bytes.bytes.items c.read_bytes.new.waiting.items c.in-Ok-read_bytes.ensures in
    subst (λ t. IsTurn g.S.Sealer.sealed g.H.BlockHash.hashed g.met.S.Sealer.one_plain (map.get c.args.store.now) (key_at c.args.keys.now) c.args.root c.args.mtime t c.keep-in-Some.new.pointers c.read_bytes.new.waiting.items) (sym rows)
    (subst (λ m. IsTurn g.S.Sealer.sealed g.H.BlockHash.hashed g.met.S.Sealer.one_plain (map.get c.args.store.now) (key_at c.args.keys.now) c.args.root c.args.mtime (map.insert c.entries.rows c.in-Some.next.entry.id (row_of c.in-Some.next c.in-Ok-read_bytes.bytes.items)) m c.read_bytes.new.waiting.items) (sym set) turn)

pub into_table-requires : goal.into_table-requires
into_table-requires g c = c.entries.invariant.reading.formed

pub returns-in-Ok-into_table-clause-reads : goal.returns-in-Ok-into_table-clause-reads
returns-in-Ok-into_table-clause-reads g c =
    let none = emptied _ c.pop.result c.entries.waiting.items _ _ c.in_default.not-Some c.pop.ensures.cases c.entries.waiting.ok.0 in
    let all = turn_end g.S.Sealer.sealed g.H.BlockHash.hashed g.met.S.Sealer.one_plain (map.get c.args.store.now) (key_at c.args.keys.now) c.args.root c.args.mtime c.entries.rows c.entries.pointers c.entries.waiting.items none c.entries.invariant in
    subst (HoldsTree (Opens g.S.Sealer.sealed g.H.BlockHash.hashed (map.get c.args.store.now) (key_at c.args.keys.now)) c.args.root c.args.mtime) (sym c.in-Ok-into_table.ensures) all.0

pub returns-in-Ok-into_table-clause-pointers : goal.returns-in-Ok-into_table-clause-pointers
returns-in-Ok-into_table-clause-pointers g c =
    let none = emptied _ c.pop.result c.entries.waiting.items _ _ c.in_default.not-Some c.pop.ensures.cases c.entries.waiting.ok.0 in
    let all = turn_end g.S.Sealer.sealed g.H.BlockHash.hashed g.met.S.Sealer.one_plain (map.get c.args.store.now) (key_at c.args.keys.now) c.args.root c.args.mtime c.entries.rows c.entries.pointers c.entries.waiting.items none c.entries.invariant in
    subst (λ (t : Tree). AllHold (Opens g.S.Sealer.sealed g.H.BlockHash.hashed (map.get c.args.store.now) (key_at c.args.keys.now)) (look t) c.entries.pointers) (sym c.in-Ok-into_table.ensures) all.1

pub returns-in-Ok-into_table-clause-each : goal.returns-in-Ok-into_table-clause-each
returns-in-Ok-into_table-clause-each g c =
    let none = emptied _ c.pop.result c.entries.waiting.items _ _ c.in_default.not-Some c.pop.ensures.cases c.entries.waiting.ok.0 in
    let all = turn_each g.S.Sealer.sealed g.H.BlockHash.hashed g.met.S.Sealer.one_plain (map.get c.args.store.now) (key_at c.args.keys.now) c.args.root c.args.mtime c.entries.rows c.entries.pointers c.entries.waiting.items none c.entries.invariant in
    subst (λ (t : Tree). HoldsEach (Opens g.S.Sealer.sealed g.H.BlockHash.hashed (map.get c.args.store.now) (key_at c.args.keys.now)) (look t) c.args.root (map.get c.entries.pointers)) (sym c.in-Ok-into_table.ensures) all

pub returns-in-Ok-into_table-clause-all : goal.returns-in-Ok-into_table-clause-all
returns-in-Ok-into_table-clause-all g c q =
    turn_all g.S.Sealer.sealed g.H.BlockHash.hashed g.met.S.Sealer.one_plain (map.get c.args.store.now) (key_at c.args.keys.now) c.args.root c.args.mtime c.entries.rows c.entries.pointers c.entries.waiting.items c.entries.invariant q
    ∙ ap (λ (t : Tree). is_some (look t q)) (sym c.in-Ok-into_table.ensures)

pub returns-in-Ok-into_table-clause-top : goal.returns-in-Ok-into_table-clause-top
returns-in-Ok-into_table-clause-top g c = c.entries.invariant.reading.first

pub returns-in-Err-clause-first : goal.returns-in-Err-clause-first
returns-in-Err-clause-first g c =
    stops_root g.S.Sealer.sealed g.H.BlockHash.hashed g.met.S.Sealer.one_plain (map.get c.args.store.now) (key_at c.args.keys.now) c.args.root c.args.mtime c.in-Err.fault c.in-Err.ensures.reads c.in-Err.ensures.names

pub returns-then-has-clause-first : goal.returns-then-has-clause-first
returns-then-has-clause-first g c =
    stops_twice g.S.Sealer.sealed g.H.BlockHash.hashed g.met.S.Sealer.one_plain (map.get c.args.store.now) (key_at c.args.keys.now) c.args.root c.args.mtime c.entries.rows c.entries.pointers c.entries.waiting.items c.pop.new.self.items c.in-Some.next c.in-Some.ensures.items c.entries.invariant
    (sym c.has.ensures ∙ c.if-has.true)

pub returns-in-Err-read_bytes-clause-first : goal.returns-in-Err-read_bytes-clause-first
returns-in-Err-read_bytes-clause-first g c =
    stops_refused g.S.Sealer.sealed g.H.BlockHash.hashed g.met.S.Sealer.one_plain (map.get c.args.store.now) (key_at c.args.keys.now) c.args.root c.args.mtime c.entries.rows c.entries.pointers c.entries.waiting.items c.pop.new.self.items c.in-Some.next c.in-Some.ensures.items c.entries.invariant
    (none_of (map.get c.entries.pointers c.in-Some.next.entry.id) (sym c.has.ensures ∙ c.if-has.false)) c.in-Err-read_bytes.fault c.in-Err-read_bytes.ensures
