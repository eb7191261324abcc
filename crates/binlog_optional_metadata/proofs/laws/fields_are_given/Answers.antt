use Rattle.binlog_optional_metadata.proofs.OneWay.{some_way, one_way}
use Rattle.binlog_optional_metadata.proofs.laws.fields_are_given.Goals as goal

pub returns : goal.returns
returns c = record {
  some_way = λ counts s bytes. some_way counts s bytes;
  one_way = λ counts s xs ys p q. one_way xs ys counts s p q;
}
