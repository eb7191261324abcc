-- What a QUERY and an EXECUTE_LOAD_QUERY event have in common: the post-header; the status variables and the schema
-- name, with the lengths of the post-header; one reserved byte; the statement, to the end.
-- Source: MySQL's internals documentation, "QUERY_EVENT" and "EXECUTE_LOAD_QUERY_EVENT".
use Rattle.std.specs.Prelude.{◌≡◌, ℕ, suc, ◌<◌, List, [], take, length, refl}
use Rattle.std.proofs.Common.{arith, ap, ◌∙◌}
use Rattle.std.proofs.lemmas.List.{take_all, length-take}
use Rattle.binlog_wire.specs.Formats.{Format, anywhere, last, number, block, rest, unit, skip_then, ◌⨾◌, seen_as}
use Rattle.binlog_statements.specs.declared.status_vars.StatusVars.{StatusVars}
use Rattle.binlog_statements.specs.declared.statement.StatementHead.{StatementHead}
use Rattle.binlog_statements.specs.declared.statement.StatementTexts.{StatementTexts}
use Rattle.binlog_statements.specs.declared.statement.Statement.{Statement}

-- The post-header, in one unit of 13 bytes: thread id (4), execution time (4), length of the schema name (1), error
-- code (2), length of the status variables (2).
abbrev pub head : Format anywhere StatementHead
head = seen_as
    (λ x. record { thread_id = x.0; execution_time = x.1.0; schema_len = x.1.1.0; error_code = x.1.1.1.0; status_vars_len = x.1.1.1.1 })
    (λ h. (h.thread_id, (h.execution_time, (h.schema_len, (h.error_code, h.status_vars_len))))) (λ _. refl) (λ _. refl)
    (unit (number 4 ⨾ number 4 ⨾ number 1 ⨾ number 2 ⨾ number 2))

-- The encoded status variables, of this length.
abbrev pub status_vars : ℕ → Format anywhere StatusVars
status_vars len = seen_as (λ text. record { 0 = text }) (λ vars. vars.0) (λ _. refl) (λ _. refl) (block len)

-- The texts after a post-header.
abbrev pub texts : StatementHead → Format last StatementTexts
texts h = seen_as
    (λ x. record { status_vars = x.0; schema = x.1.0; query = x.1.1 })
    (λ t. (t.status_vars, (t.schema, t.query))) (λ _. refl) (λ _. refl)
    (status_vars h.status_vars_len ⨾ block h.schema_len ⨾ skip_then 1 rest)

-- The empty statement with these status variables and this schema name.
abbrev pub new_statement : List ℕ → List ℕ → Statement
new_statement status_vars schema = record {
  thread_id = 0;
  execution_time = 0;
  error_code = 0;
  texts = record { status_vars = record { 0 = status_vars }; schema = schema; query = [] };
}

-- The statement with its status variables replaced.
abbrev pub with_status_vars : Statement → List ℕ → Statement
with_status_vars e status_vars = record e { texts = record e.texts { status_vars = record { 0 = status_vars } } }

-- The statement with its schema replaced.
abbrev pub with_schema : Statement → List ℕ → Statement
with_schema e schema = record e { texts = record e.texts { schema = schema } }

-- The statement with its query replaced.
abbrev pub with_query : Statement → List ℕ → Statement
with_query e query = record e { texts = record e.texts { query = query } }

-- The statement with the numbers of a post-header and these texts.
abbrev pub statement_with : StatementHead → StatementTexts → Statement
statement_with h t = record { thread_id = h.thread_id; execution_time = h.execution_time; error_code = h.error_code; texts = t }

-- The post-header of a statement. Its lengths are those of the truncated texts: 255 bytes of the schema name, 65,535
-- of the status variables.
abbrev pub head_of : Statement → StatementHead
head_of e = record {
  thread_id = e.thread_id;
  execution_time = e.execution_time;
  schema_len = length (take 255 e.texts.schema);
  error_code = e.error_code;
  status_vars_len = length (take 65535 e.texts.status_vars.0);
}

-- The texts as written: the status variables and the schema name truncated.
abbrev pub texts_of : Statement → StatementTexts
texts_of e = record {
  status_vars = record { 0 = take 65535 e.texts.status_vars.0 };
  schema = take 255 e.texts.schema;
  query = e.texts.query;
}

whole : (max : ℕ) (s : List ℕ) (k : ℕ) → length s ≡ k → k < suc max → take max s ≡ s
whole max s k e less = take_all max s (omega arith)

-- A post-header and texts that were read with its lengths are those of the statement built from both.
pub head_again : (s : List ℕ) (h : StatementHead) (m : List ℕ) → head.spells s h m
    → (q : List ℕ) (t : StatementTexts) (r : List ℕ) → (texts h).spells q t r
    → (head_of (statement_with h t) ≡ h) × (texts_of (statement_with h t) ≡ t)
head_again s h m is q t r are =
    let numbers = is.2.2 in
    let variables : take 65535 t.status_vars.0 ≡ t.status_vars.0 = whole 65535 t.status_vars.0 h.status_vars_len are.1.0 numbers.2.2.0 in
    let schema : take 255 t.schema ≡ t.schema = whole 255 t.schema h.schema_len are.2.1.0 numbers.1.0 in
    (rw (variables, schema, are.1.0, are.2.1.0) refl, rw (variables, schema) refl)

cut_twice : (max : ℕ) (s : List ℕ) → take max (take max s) ≡ take max s
cut_twice max s = take_all max (take max s) (omega (arith, length-take max s))

-- A post-header and the texts after it.
abbrev pub Parts : Type 0
Parts = StatementHead × StatementTexts

-- The post-header and the texts of a statement, as written.
abbrev pub parts_of : Statement → Parts
parts_of e = (head_of e, texts_of e)

-- The same with other status variables and another schema name.
abbrev parts_with : Statement → List ℕ → List ℕ → Parts
parts_with e variables schema = (
  record { thread_id = e.thread_id; execution_time = e.execution_time; schema_len = length schema; error_code = e.error_code; status_vars_len = length variables },
  record { status_vars = record { 0 = variables }; schema = schema; query = e.texts.query },
)

-- Truncating the texts twice is truncating them once.
pub parts_twice : (e : Statement) → ◌≡◌ {A = Parts} (parts_of (statement_with (head_of e) (texts_of e))) (parts_of e)
parts_twice e =
    let variables = e.texts.status_vars.0 in
    let schema = e.texts.schema in
    ap (λ (v : List ℕ). parts_with e v (take 255 (take 255 schema))) (cut_twice 65535 variables)
    ∙ ap (λ (s : List ℕ). parts_with e (take 65535 variables) s) (cut_twice 255 schema)

-- Texts that were read are within the limits, so truncation leaves them unchanged.
pub parts_again : (s : List ℕ) (x : Parts) (m : List ℕ) → head.spells s x.0 m → (q : List ℕ) (r : List ℕ) → (texts x.0).spells q x.1 r
    → ◌≡◌ {A = Parts} (parts_of (statement_with x.0 x.1)) x
parts_again s x m is q r are =
    let again = head_again s x.0 m is q x.1 r are in
    rw (again.0, again.1) refl
