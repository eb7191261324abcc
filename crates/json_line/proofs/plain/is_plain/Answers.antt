use Rattle.json_line.proofs.Passed.{as_it_is, is_ascii, is_text}
use Rattle.json_line.proofs.plain.is_plain.Goals as goal

pub returns-then-text-ge16-clause-as_it_is : goal.returns-then-text-ge16-clause-as_it_is
returns-then-text-ge16-clause-as_it_is c = as_it_is c.is_plain_by_blocks.result c.args.text.now c.is_plain_by_blocks.ensures

pub returns-then-text-ge16-clause-utf8 : goal.returns-then-text-ge16-clause-utf8
returns-then-text-ge16-clause-utf8 c = is_text c.is_plain_by_blocks.result c.args.text.now c.is_plain_by_blocks.ensures

pub returns-then-text-ge8-clause-as_it_is : goal.returns-then-text-ge8-clause-as_it_is
returns-then-text-ge8-clause-as_it_is c = as_it_is c.is_plain_by_blocks-then-text-ge8.result c.args.text.now c.is_plain_by_blocks-then-text-ge8.ensures

pub returns-then-text-ge8-clause-utf8 : goal.returns-then-text-ge8-clause-utf8
returns-then-text-ge8-clause-utf8 c = is_text c.is_plain_by_blocks-then-text-ge8.result c.args.text.now c.is_plain_by_blocks-then-text-ge8.ensures

pub returns-then-text-ge4-clause-as_it_is : goal.returns-then-text-ge4-clause-as_it_is
returns-then-text-ge4-clause-as_it_is c = as_it_is c.is_plain_by_blocks-then-text-ge4.result c.args.text.now c.is_plain_by_blocks-then-text-ge4.ensures

pub returns-then-text-ge4-clause-utf8 : goal.returns-then-text-ge4-clause-utf8
returns-then-text-ge4-clause-utf8 c = is_text c.is_plain_by_blocks-then-text-ge4.result c.args.text.now c.is_plain_by_blocks-then-text-ge4.ensures

pub returns-else-text-ge4-clause-as_it_is : goal.returns-else-text-ge4-clause-as_it_is
returns-else-text-ge4-clause-as_it_is c = as_it_is c.is_plain_by_bytes.result c.args.text.now c.is_plain_by_bytes.ensures

pub returns-else-text-ge4-clause-utf8 : goal.returns-else-text-ge4-clause-utf8
returns-else-text-ge4-clause-utf8 c = is_text c.is_plain_by_bytes.result c.args.text.now c.is_plain_by_bytes.ensures

pub returns-then-text-ge16-clause-ascii : goal.returns-then-text-ge16-clause-ascii
returns-then-text-ge16-clause-ascii c = is_ascii c.is_plain_by_blocks.result c.args.text.now c.is_plain_by_blocks.ensures

pub returns-then-text-ge8-clause-ascii : goal.returns-then-text-ge8-clause-ascii
returns-then-text-ge8-clause-ascii c = is_ascii c.is_plain_by_blocks-then-text-ge8.result c.args.text.now c.is_plain_by_blocks-then-text-ge8.ensures

pub returns-then-text-ge4-clause-ascii : goal.returns-then-text-ge4-clause-ascii
returns-then-text-ge4-clause-ascii c = is_ascii c.is_plain_by_blocks-then-text-ge4.result c.args.text.now c.is_plain_by_blocks-then-text-ge4.ensures

pub returns-else-text-ge4-clause-ascii : goal.returns-else-text-ge4-clause-ascii
returns-else-text-ge4-clause-ascii c = is_ascii c.is_plain_by_bytes.result c.args.text.now c.is_plain_by_bytes.ensures
