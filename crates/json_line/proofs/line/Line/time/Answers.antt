use Rattle.std.proofs.Common.{◌++◌, ◌∷◌, [], true, refl, ap, ◌∙◌, arith}
use Rattle.json.specs.Token.{string}
use Rattle.json.proofs.Printed.Utf8.{IsUtf8-quoted}
use Rattle.json_line.specs.Moments.{time_text}
use Rattle.json_line.proofs.PlainTexts.{string_text}
use Rattle.json_line.proofs.PlainMoments.{plain_time}
use Rattle.json_line.proofs.OneMore.{text_begun, pushed, pushed_tokens}
use Rattle.json_line.proofs.line.Line.time.Goals as goal

pub invariant_of-self-2 : goal.invariant_of-self-2
invariant_of-self-2 c =
    let plain = plain_time c.args.is_negative c.args.time.now.hour c.args.time.now.minute c.args.time.now.second c.args.time.now.digits c.args.time.now.microseconds (omega arith) (omega arith) (omega arith) in
    let token = string (time_text c.args.is_negative c.args.time.now.hour c.args.time.now.minute c.args.time.now.second c.args.time.now.digits c.args.time.now.microseconds) in
    pushed _ _ c.self.invariant token tt (IsUtf8-quoted _ plain.1) _ true refl (text_begun _ _ _ token _ refl (string_text _ plain.0) c.in_ok-add_time.ensures)

pub returns-clause-added : goal.returns-clause-added
returns-clause-added c =
    let plain = plain_time c.args.is_negative c.args.time.now.hour c.args.time.now.minute c.args.time.now.second c.args.time.now.digits c.args.time.now.microseconds (omega arith) (omega arith) (omega arith) in
    let token = string (time_text c.args.is_negative c.args.time.now.hour c.args.time.now.minute c.args.time.now.second c.args.time.now.digits c.args.time.now.microseconds) in
    pushed_tokens _ _ c.self.invariant token tt (IsUtf8-quoted _ plain.1) _ true refl (text_begun _ _ _ token _ refl (string_text _ plain.0) c.in_ok-add_time.ensures)
    ∙ ap (λ l. l ++ token ∷ []) c.self.view_is
