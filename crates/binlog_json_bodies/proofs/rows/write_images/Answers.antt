use Rattle.std.proofs.Common.{append_assoc}
use Rattle.binlog_json_bodies.proofs.rows.write_images.Goals as goal

pub returns : goal.returns
returns c = rw (c.in_ok-write_image-2.ensures, c.in_ok-key-2.ensures.added, c.in_ok-write_image.ensures, c.in_ok-key.ensures.added, c.in_ok-number_member.ensures.added) (simp append_assoc)
