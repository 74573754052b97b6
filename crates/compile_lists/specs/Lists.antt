-- The lists by value as document 01's lists: operations, outputs.
-- Assumes nothing.
use Rattle.std.specs.Prelude.{List}
use Rattle.limits.specs.Limits.{max_rows, max_operations}
use Rattle.lists.specs.declared.List.{List as ListOf}
use Rattle.lists.specs.Items.{items_of}
use Rattle.layout_rules.specs.declared.Operation.{Operation}
use Rattle.layout_rules.specs.declared.Output.{Output}

-- what stands past a list's end
abbrev pub no_operation : Operation
no_operation = record { sign = 0; a = 0; sa = 0; b = 0; sb = 0; width = 0 }

abbrev pub no_output : Output
no_output = record { sign = 0; symbol = 0; shift = 0; width = 0 }

abbrev pub operations_list : ListOf Operation max_operations → List Operation
operations_list os = items_of os

abbrev pub outputs_list : ListOf Output max_rows → List Output
outputs_list os = items_of os
