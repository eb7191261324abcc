use Rattle.std.proofs.Common.{◌≡◌, List, [], ◌∷◌, ◌++◌, None, map, refl, sym, ap, ◌∙◌, rules}
use Rattle.std.proofs.lemmas.Iterator.Adapters.{YieldsList-from_vec}
use Rattle.std.proofs.lemmas.Iterator.Consumers.{YieldsList-end}
use Rattle.std.proofs.lemmas.List.{map-id}
use Rattle.binlog_optional_metadata.specs.declared.column_facts.ColumnFacts.{ColumnFacts}
use Rattle.column_files.specs.Tables.{described}
use Rattle.binlog_declared_columns.specs.Facts.{all_facts, all_with}
use Rattle.binlog_declared_columns.proofs.BothFacts.{one_declared, one_alone, none_left, no_columns}
use Rattle.binlog_declared_columns.proofs.completion.all_of_both.Goals as goal

pub loop-stated-preserved-in-Some-split_first : goal.loop-stated-preserved-in-Some-split_first
loop-stated-preserved-in-Some-split_first c =
    let first : c.loop-stated.rest.now ≡ c.in-Some-split_first.column.now ∷ c.in-Some-split_first.behind.now = search rules in
    let is : c.push.new.self.items ≡ c.loop-stated.both.items ++ c.in_ok-with_declared-in-Some-split_first.field-0 ∷ [] = search rules in
    one_declared c.args.declared.now c.loop-stated.yielded c.loop-stated.both.items c.push.new.self.items c.loop-stated.rest.now c.in-Some-split_first.behind.now c.in-Some-split_first.column.now c.in-Some.stated
    c.in_ok-with_declared-in-Some-split_first.field-0 c.loop-stated.invariant first is c.in_ok-with_declared-in-Some-split_first.ensures

pub loop-stated-preserved : goal.loop-stated-preserved
loop-stated-preserved c =
    let none : c.loop-stated.rest.now ≡ [] = no_columns c.loop-stated.rest.now c.in-None-split_first.ensures.cases in
    let is : c.push-in-None-split_first.new.self.items ≡ c.loop-stated.both.items ++ c.in-Some.stated ∷ [] = search rules in
    one_alone c.args.declared.now c.loop-stated.yielded c.loop-stated.both.items c.push-in-None-split_first.new.self.items c.loop-stated.rest.now c.in-Some.stated c.loop-stated.invariant none is

pub returns : goal.returns
returns c =
    let gives = c.into_iter-stated-iterator.ensures.into_iter_gives in
    let ended = YieldsList-end (YieldsList-from_vec c.args.facts.items gives.0 (gives.1 ∙ c.args.facts.ok.0)) c.loop-stated.yielded c.loop-stated.stated-iterator c.loop-stated.yielded_by None c.next.new.self refl
    c.in-None.ensures.steps in
    none_left c.args.declared.now c.loop-stated.yielded c.loop-stated.both.items c.loop-stated.rest.now c.loop-stated.invariant
    ∙ ap (λ (fs : List ColumnFacts). all_with (all_facts fs) (map described c.args.declared.now)) (sym (map-id c.loop-stated.yielded) ∙ ended.0)
