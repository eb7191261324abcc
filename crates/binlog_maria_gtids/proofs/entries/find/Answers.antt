use Rattle.std.proofs.Common.{sym, rules}
use Rattle.std.proofs.lemmas.Fn.{always_returns_same}
use Rattle.binlog_mariadb.specs.declared.maria_gtid.MariaGtid.{MariaGtid}
use Rattle.binlog_maria_gtids.specs.LastGtids.{origin, origin_of, compare_origins}
use Rattle.binlog_maria_gtids.proofs.LastGtids.{searched, after_last}
use Rattle.binlog_maria_gtids.proofs.entries.find.Goals as goal

pub returns-clause-found : goal.returns-clause-found
returns-clause-found c =
    let facts = c.binary_search_by.ensures in
    let by_origin = facts.position (λ (g : MariaGtid). compare_origins (origin_of g) (origin c.args.domain c.args.server_id)) (always_returns_same _ _ _ (λ a r f called. search rules)) in
    (searched c.args.entries.now c.requires (origin c.args.domain c.args.server_id) c.binary_search_by.result facts.bound by_origin).found

pub returns-clause-absent : goal.returns-clause-absent
returns-clause-absent c =
    let facts = c.binary_search_by.ensures in
    let by_origin = facts.position (λ (g : MariaGtid). compare_origins (origin_of g) (origin c.args.domain c.args.server_id)) (always_returns_same _ _ _ (λ a r f called. search rules)) in
    (searched c.args.entries.now c.requires (origin c.args.domain c.args.server_id) c.binary_search_by.result facts.bound by_origin).absent

pub returns-in-Less-clause-absent : goal.returns-in-Less-clause-absent
returns-in-Less-clause-absent c =
    let item = c.in-Some.ensures.item in
    after_last c.args.entries.now c.requires (origin c.args.domain c.args.server_id) c.in-Some.last.now item.3.0 item.1 (sym c.in-Less.ensures)
