use Rattle.binlog_values.proofs.GroupLists.{first_small, groups_shown, last_small, nines_small}
use Rattle.binlog_values.proofs.decimal.Decimal.groups.Goals as goal

pub returns-clause-text : goal.returns-clause-text
returns-clause-text c =
    let of = c.args.self.now in
    let front = c.front_of-front.result in
    groups_shown of.precision of.scale of.bytes.now c.group_number-number.result c.digits_len-start.result c.from-many.result front.first front.place front.left c.from-part.result c.group_number-last.result
    c.read_nines-nines.result of.within of.fits c.group_number-number.ensures c.digits_len-start.ensures.len c.from-many.ensures c.from-part.ensures c.front_of-front.ensures.text c.front_of-front.ensures.place
    c.read_nines-nines.ensures c.group_number-last.ensures

pub returns-clause-first : goal.returns-clause-first
returns-clause-first c =
    let of = c.args.self.now in
    let front = c.front_of-front.result in
    first_small of.precision of.scale of.bytes.now c.group_number-number.result c.digits_len-start.result c.from-many.result front.first front.place front.left
    of.fits c.group_number-number.ensures c.digits_len-start.ensures.len c.from-many.ensures c.front_of-front.ensures.place c.front_of-front.ensures.stored

pub returns-clause-nines : goal.returns-clause-nines
returns-clause-nines c =
    let of = c.args.self.now in
    let front = c.front_of-front.result in
    nines_small of.precision of.scale of.bytes.now c.digits_len-start.result c.from-many.result front.place front.left c.from-part.result c.read_nines-nines.result
    of.fits c.digits_len-start.ensures.len c.from-many.ensures c.from-part.ensures c.front_of-front.ensures.place c.front_of-front.ensures.few c.read_nines-nines.ensures

pub returns-clause-last : goal.returns-clause-last
returns-clause-last c =
    let of = c.args.self.now in
    let front = c.front_of-front.result in
    last_small of.precision of.scale of.bytes.now c.digits_len-start.result c.from-many.result front.place front.left c.from-part.result c.group_number-last.result
    of.fits c.digits_len-start.ensures.len c.from-many.ensures c.from-part.ensures c.front_of-front.ensures.place c.group_number-last.ensures
