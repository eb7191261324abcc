-- Lines that are marked, and cut.
use Rattle.std.proofs.Common.{◌≡◌, ℕ, ◌≤◌, Bool, false, List, ◌++◌, length, take, fold, sym, ap, ◌∙◌, subst, arith, take_at, length-append, IsUtf8}
use Rattle.json.specs.Token.{Token}
use Rattle.json.specs.Lex.{tokens}
use Rattle.json.specs.Print.{print, print_from, ends, ends_value}
use Rattle.json.proofs.Printed.Tokens.{tokens-print, print_from-append}
use Rattle.json_line.specs.Lines.{IsLine}
use Rattle.json_line.specs.Marks.{StandsBehind, IsMarked}
use Rattle.json_line.specs.declared.line.Mark.{Mark}
use Rattle.json_line.proofs.OneMore.{shows_printed, print_shown}

-- The mark of a line.
pub marked : (text : List ℕ) (mark : Mark) → IsLine text mark.after_value → mark.len ≡ length text → StandsBehind mark (tokens text)
marked text mark line len =
    let shown : tokens text ≡ line.printed = shows_printed text mark.after_value line in
    subst (StandsBehind mark) (sym shown) (record {
      printable = line.printable;
      utf8 = subst IsUtf8 line.is line.utf8;
      len = len ∙ ap length line.is;
      place = line.place;
    })

-- A line that begins with these tokens begins with their bytes.
begins_with : (text : List ℕ) (after_value : Bool) (before after : List Token) → IsLine text after_value → tokens text ≡ before ++ after
    → text ≡ print before ++ print_from (fold (λ _ token. ends token) false before) after
begins_with text after_value before after line is = print_shown text after_value line ∙ ap print is ∙ print_from-append false before after

pub in_line : (text : List ℕ) (after_value : Bool) (mark : Mark) → IsLine text after_value → IsMarked mark (tokens text) → mark.len ≤ length text
in_line text after_value mark line marked =
    let front = begins_with text after_value marked.before marked.after line marked.is in
    omega (arith, marked.stands.len, ap length front, length-append (print marked.before) (print_from (ends_value marked.before) marked.after))

pub cut_from : {shown line : List Token} (mark : Mark) → shown ≡ line → IsMarked mark line → IsMarked mark shown
cut_from mark is marked = subst (IsMarked mark) (sym is) marked

-- What is kept are the bytes of the tokens at the mark.
pub kept : (text : List ℕ) (after_value : Bool) (mark : Mark) (before after : List Token) → IsLine text after_value → StandsBehind mark before → tokens text ≡ before ++ after
    → take mark.len text ≡ print before
kept text after_value mark before after line stands is =
    ap (take mark.len) (begins_with text after_value before after line is) ∙ take_at (print before) (print_from (ends_value before) after) mark.len (sym stands.len)

pub cut_line : (text : List ℕ) (mark : Mark) (before : List Token) → StandsBehind mark before → text ≡ print before → IsLine text mark.after_value
cut_line text mark before stands is = record {
  printed = before;
  printable = stands.printable;
  is = is;
  place = stands.place;
  utf8 = subst IsUtf8 (sym is) stands.utf8;
}

pub cut_tokens : (text : List ℕ) (mark : Mark) (before : List Token) → StandsBehind mark before → text ≡ print before → tokens text ≡ before
cut_tokens text mark before stands is = ap tokens is ∙ tokens-print before stands.printable
